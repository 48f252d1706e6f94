-- Words as their tokens come.
use Rattle.std.proofs.Common.{◌≡◌, ◌==◌, ℕ, ◌≤◌, ◌<◌, ◌+◌, ◌-◌, Bool, true, false, not, if◌then◌else◌, List, [], ◌∷◌, ◌++◌, map, refl, sym, ap, ◌∙◌, arith, subst, append-nil, append_assoc, ◌≢◌, ◌⊎◌, inl, inr, length}
use Rattle.std.proofs.lemmas.Bool.Decides.{nat_tests}
use Rattle.mad_md.specs.declared.compound.Compound.{Compound}
use Rattle.mad_measure.specs.Tokens.{IsInCompound}
use Rattle.mad_measure.specs.declared.tokens.Token.{Token}
use Rattle.mad_measure.proofs.AllLemmas.{all_push}
use Rattle.mad_wrap.specs.Breaks.{total_width}
use Rattle.mad_wrap.specs.LeastWrap.{AreTokensIn}
use Rattle.mad_wrap.specs.Rooms.{token_limit}
use Rattle.mad_wrap.specs.WordLines.{AreInCompounds, IsAtFirst, PutsPiece, PutsPieces, AreWordLines}
use Rattle.mad_wrap.specs.Words.{Piece, alone, together, pieces_after, pieces_of}
use Rattle.mad_wrap.specs.declared.placing_words.WordLines.{WordLines}
use Rattle.mad_wrap.specs.declared.room.Room.{Room}
use Rattle.mad_wrap.specs.declared.wrapped_line.WrappedLine.{WrappedLine}
use Rattle.mad_wrap.proofs.EndLemmas.{lone_pieces}
use Rattle.mad_wrap.proofs.PlacingLemmas.{total_width-push}
use Rattle.mad_wrap.proofs.WordLemmas.{wide_pieces, word_fits, after_blank, after_solid, wide_blank, wide_solid, after_wide, alone_push}
use Rattle.mad_wrap.proofs.WordLineLemmas.{puts_more, puts_one, all_put}

-- the pieces of the tokens that come, after those of a word that has begun
abbrev pub left_pieces : ℕ → Bool → List Token → List Token → List Piece
left_pieces limit false word more = pieces_after limit word more
left_pieces limit true word more = wide_pieces limit more

-- These tokens are in pieces that are put, but for those of a word that has begun.
pub record WordsSoFar (r : Room) (ps : List Compound) (ts : List Token) (s : WordLines) (word : List Token) (width : ℕ) (wide : Bool) : Type 0 where
  pub start : WordLines
  pub at_first : IsAtFirst r start
  pub pieces : List Piece
  pub puts : PutsPieces start pieces s
  pub within : AreInCompounds word
  pub width_is : width ≡ total_width word
  pub fits : width ≤ token_limit r
  pub none_wide : wide ≡ true → word ≡ []
  pub rest : (more : List Token) → AreTokensIn r ps (ts ++ more) → pieces_of (token_limit r) (ts ++ more) ≡ pieces ++ left_pieces (token_limit r) wide word more

-- before the first token no word has begun
pub words_begin : (r : Room) (ps : List Compound) (s : WordLines) (word : List Token) → IsAtFirst r s → word ≡ [] → WordsSoFar r ps [] s word 0 false
words_begin r ps s word first none = subst (λ w. WordsSoFar r ps [] s w 0 false) (sym none) (record {
  start = s;
  at_first = first;
  pieces = [];
  puts = refl;
  within = tt;
  width_is = refl;
  fits = omega arith;
  none_wide = λ e. refl;
  rest = λ more tokens. refl;
})

grouped : (r : Room) (ps : List Compound) (ts more : List Token) (t : Token) → AreTokensIn r ps ((ts ++ t ∷ []) ++ more) → AreTokensIn r ps (ts ++ (t ∷ more))
grouped r ps ts more t tokens = subst (AreTokensIn r ps) (append_assoc ts (t ∷ []) more) tokens

-- a token that the word takes in
pub word_takes : (r : Room) (ps : List Compound) (ts : List Token) (t : Token) (s : WordLines) (word new_word : List Token) (width new_width : ℕ) (wide : Bool) → WordsSoFar r ps ts s word width wide → t.blank ≡ false → wide ≡ false → t.width ≤ token_limit r - width
    → IsInCompound t → new_word ≡ word ++ t ∷ [] → new_width ≡ width + t.width → WordsSoFar r ps (ts ++ t ∷ []) s new_word new_width wide
word_takes r ps ts t s word new_word width new_width wide h solid narrow fits within pushed grows =
    let limit = token_limit r in
    let more_width : new_width ≡ total_width (word ++ t ∷ []) = omega (arith, grows, h.width_is, total_width-push word t) in
    subst (λ w. WordsSoFar r ps (ts ++ t ∷ []) s w new_width wide) (sym pushed) (subst (WordsSoFar r ps (ts ++ t ∷ []) s (word ++ t ∷ []) new_width) (sym narrow) (record {
      start = h.start;
      at_first = h.at_first;
      pieces = h.pieces;
      puts = h.puts;
      within = all_push IsInCompound word t h.within within;
      width_is = more_width;
      fits = omega (arith, grows, fits, h.fits);
      none_wide = λ e. absurd (cc);
      rest = λ more tokens.
          ap (pieces_of limit) (append_assoc ts (t ∷ []) more) ∙ h.rest (t ∷ more) (grouped r ps ts more t tokens) ∙ ap (λ b. h.pieces ++ left_pieces limit b word (t ∷ more)) narrow ∙ ap (λ ps. h.pieces ++ ps) (after_solid limit word more t solid);
    }))

-- a blank token
left_blank : (limit : ℕ) (wide : Bool) (word more : List Token) (t : Token) → total_width word ≤ limit → (wide ≡ true → word ≡ []) → t.blank ≡ true → left_pieces limit wide word (t ∷ more) ≡ together word ++ (alone t ∷ pieces_after limit [] more)
left_blank limit false word more t fits none e = after_blank limit word more t e ∙ ap (λ l. l ++ (alone t ∷ pieces_after limit [] more)) (word_fits limit word fits)
left_blank limit true word more t fits none e = wide_blank limit more t e ∙ ap (λ w. together w ++ (alone t ∷ pieces_after limit [] more)) (sym (none refl))

-- The word is wider than the limit with this token; or it begins with it, and the token ends before its compound does.
abbrev pub StopsWord : Room → List Token → ℕ → Token → Type 0
StopsWord r word width t = (token_limit r - width < t.width) ⊎ ((word ≡ []) × (t.end_in_compound ≢ length t.compound.src.now))

stopped_by : (r : Room) (ps : List Compound) (ts word more : List Token) (width : ℕ) (t : Token) → width ≡ total_width word → AreTokensIn r ps (ts ++ (t ∷ more)) → t.blank ≡ false → StopsWord r word width t
    → pieces_after (token_limit r) (word ++ t ∷ []) more ≡ map alone word ++ (alone t ∷ wide_pieces (token_limit r) more)
stopped_by r ps ts word more width t is tokens solid (inl over) =
    let limit = token_limit r in
    after_wide limit (word ++ t ∷ []) more (omega (arith, is, over, total_width-push word t)) ∙ alone_push word t (wide_pieces limit more)
stopped_by r ps ts word more width t is tokens solid (inr (none, inside)) =
    let limit = token_limit r in
    ap (λ w. pieces_after limit (w ++ t ∷ []) more) none ∙ lone_pieces limit ps ts more t tokens solid inside ∙ ap (λ w. map alone w ++ (alone t ∷ wide_pieces limit more)) (sym none)

-- a token with which the word can't go on
left_solid : (r : Room) (ps : List Compound) (ts : List Token) (width : ℕ) (wide : Bool) (word more : List Token) (t : Token) → width ≡ total_width word → (wide ≡ true → word ≡ []) → (wide ≡ false → StopsWord r word width t)
    → AreTokensIn r ps (ts ++ (t ∷ more)) → t.blank ≡ false → left_pieces (token_limit r) wide word (t ∷ more) ≡ map alone word ++ (alone t ∷ wide_pieces (token_limit r) more)
left_solid r ps ts width false word more t is none over tokens e = after_solid (token_limit r) word more t e ∙ stopped_by r ps ts word more width t is tokens e (over refl)
left_solid r ps ts width true word more t is none over tokens e = wide_solid (token_limit r) more t e ∙ ap (λ w. map alone w ++ (alone t ∷ wide_pieces (token_limit r) more)) (sym (none refl))

regroup : (ps qs rest : List Piece) (t : Token) → ps ++ (qs ++ (alone t ∷ rest)) ≡ (ps ++ (qs ++ alone t ∷ [])) ++ rest
regroup ps qs rest t = ap (λ l. ps ++ l) (sym (append_assoc qs (alone t ∷ []) rest)) ∙ sym (append_assoc ps (qs ++ alone t ∷ []) rest)

-- the word's tokens are put, and the token after them
puts_by : (r : Room) (ps : List Compound) (ts : List Token) (t : Token) (s m n : WordLines) (word : List Token) (width : ℕ) (wide b : Bool) → WordsSoFar r ps ts s word width wide → t.blank ≡ b → (t.blank ≡ false → wide ≡ false → StopsWord r word width t)
    → PutsPieces s (if b then together word else map alone word) m → PutsPiece m (alone t) n → WordsSoFar r ps (ts ++ t ∷ []) n [] 0 (not b)
puts_by r ps ts t s m n word width wide true h e over begun put = record {
  start = h.start;
  at_first = h.at_first;
  pieces = h.pieces ++ (together word ++ alone t ∷ []);
  puts = puts_more h.start s n h.pieces (together word ++ alone t ∷ []) h.puts (puts_more s m n (together word) (alone t ∷ []) begun (puts_one m n (alone t) put));
  within = tt;
  width_is = refl;
  fits = omega arith;
  none_wide = λ e. refl;
  rest = λ more tokens.
      let limit = token_limit r in
      ap (pieces_of limit) (append_assoc ts (t ∷ []) more) ∙ h.rest (t ∷ more) (grouped r ps ts more t tokens) ∙ ap (λ ps. h.pieces ++ ps) (left_blank limit wide word more t (omega (arith, h.width_is, h.fits)) h.none_wide e)
      ∙ regroup h.pieces (together word) (pieces_after limit [] more) t;
}
puts_by r ps ts t s m n word width wide false h e over begun put = record {
  start = h.start;
  at_first = h.at_first;
  pieces = h.pieces ++ (map alone word ++ alone t ∷ []);
  puts = puts_more h.start s n h.pieces (map alone word ++ alone t ∷ []) h.puts (puts_more s m n (map alone word) (alone t ∷ []) begun (puts_one m n (alone t) put));
  within = tt;
  width_is = refl;
  fits = omega arith;
  none_wide = λ e. refl;
  rest = λ more tokens.
      let limit = token_limit r in
      ap (pieces_of limit) (append_assoc ts (t ∷ []) more) ∙ h.rest (t ∷ more) (grouped r ps ts more t tokens) ∙ ap (λ ps. h.pieces ++ ps) (left_solid r ps ts width wide word more t h.width_is h.none_wide (over e) (grouped r ps ts more t tokens) e)
      ∙ regroup h.pieces (map alone word) (wide_pieces limit more) t;
}

-- a word that can't go on with a token is put, and then the token
pub word_puts : (r : Room) (ps : List Compound) (ts : List Token) (t : Token) (s m n : WordLines) (word new_word : List Token) (width new_width : ℕ) (wide new_wide : Bool) → WordsSoFar r ps ts s word width wide
    → (t.blank ≡ false → wide ≡ false → StopsWord r word width t) → PutsPieces s (if t.blank then together word else map alone word) m → PutsPiece m (alone t) n → new_word ≡ [] → new_width ≡ 0 → new_wide ≡ not t.blank
    → WordsSoFar r ps (ts ++ t ∷ []) n new_word new_width new_wide
word_puts r ps ts t s m n word new_word width new_width wide new_wide h over begun put none zero is =
    subst (λ w. WordsSoFar r ps (ts ++ t ∷ []) n w new_width new_wide) (sym none) (
    subst (λ k. WordsSoFar r ps (ts ++ t ∷ []) n [] k new_wide) (sym zero)
    (subst (WordsSoFar r ps (ts ++ t ∷ []) n [] 0) (sym is) (puts_by r ps ts t s m n word width wide t.blank h refl over begun put))
    )

-- the tokens of the word are put, if there are any, and it is empty
pub record IsPut (s m : WordLines) (ended : Bool) (word new_word : List Token) (new_width : ℕ) : Type 0 where
  pub puts : PutsPieces s (if ended then together word else map alone word) m
  pub none : new_word ≡ []
  pub zero : new_width ≡ 0

zero_of : (n : ℕ) → true ≡ (n == 0) → n ≡ 0
zero_of n e = grind (arith, nat_tests)

-- a list whose length passes the test for 0 is empty
pub none_of : (n : ℕ) (word : List Token) → true ≡ (n == 0) → n ≡ length word → word ≡ []
none_of n [] e is = refl
none_of n (t ∷ word) e is = absurd (omega (arith, is, zero_of n e))

-- an empty word is put as nothing
pub none_put : (s m : WordLines) (b : Bool) (word new_word : List Token) (width new_width : ℕ) → word ≡ [] → width ≡ total_width word → m ≡ s → new_word ≡ word → new_width ≡ width → IsPut s m b word new_word new_width
none_put s m true [] new_word width new_width none is stays same_word same = record { puts = stays; none = same_word; zero = same ∙ is }
none_put s m false [] new_word width new_width none is stays same_word same = record { puts = stays; none = same_word; zero = same ∙ is }
none_put s m b (x ∷ word) new_word width new_width none is stays same_word same = absurd (cc)

-- the last word
left_end : (limit : ℕ) (wide : Bool) (word : List Token) → total_width word ≤ limit → (wide ≡ true → word ≡ []) → left_pieces limit wide word [] ≡ together word
left_end limit false word fits none = word_fits limit word fits
left_end limit true word fits none = ap together (sym (none refl))

-- the last word is put, and all pieces are on lines
pub words_end : (r : Room) (ps : List Compound) (ts : List Token) (s n : WordLines) (word : List Token) (width : ℕ) (wide : Bool) (new : List WrappedLine) → AreTokensIn r ps ts → WordsSoFar r ps ts s word width wide → PutsPieces s (together word) n → new ≡ n.lines.items ++ n.line ∷ []
    → AreWordLines r ts new
words_end r ps ts s n word width wide new tokens h put pushed =
    let limit = token_limit r in
    let all : h.pieces ++ together word ≡ pieces_of limit ts =
    sym (ap (λ l. h.pieces ++ l) (left_end limit wide word (omega (arith, h.width_is, h.fits)) h.none_wide)) ∙ sym (h.rest [] (subst (AreTokensIn r ps) (sym (append-nil ts)) tokens)) ∙ ap (pieces_of limit) (append-nil ts) in
    all_put r ts h.start n (h.pieces ++ together word) new h.at_first (puts_more h.start s n h.pieces (together word) h.puts put) all pushed
