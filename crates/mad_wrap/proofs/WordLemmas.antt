-- Pieces of tokens: all tokens are in them, and what holds of a break of pieces holds of their tokens.
use Rattle.std.proofs.Common.{◌≡◌, ℕ, ◌≤◌, ◌<◌, ◌+◌, Bool, true, false, nat_le, if◌then◌else◌, List, [], ◌∷◌, ◌++◌, map, length, refl, sym, ap, ◌∙◌, arith, subst, append-nil, append_assoc}
use Rattle.std.specs.List.{AllByRecursion}
use Rattle.std.proofs.lemmas.Bool.{leb-true}
use Rattle.std.proofs.lemmas.Bool.Decides.{nat_tests}
use Rattle.std.proofs.lemmas.Grind.{flat_map-append}
use Rattle.std.proofs.lemmas.List.{map-append}
use Rattle.mad_measure.specs.declared.tokens.Token.{Token}
use Rattle.mad_measure.proofs.AllLemmas.{all_joined, all_push, all_front, all_back}
use Rattle.mad_wrap.specs.Breaks.{LineAndGap, lines_and_gaps, total_width, AllBlank, FitsFrom}
use Rattle.mad_wrap.specs.Placings.{GapsForced}
use Rattle.mad_wrap.specs.Rooms.{most_indent, token_limit}
use Rattle.mad_wrap.specs.Words.{Piece, piece_tokens, pieces_tokens, as_token, alone, together, word_pieces, pieces_after, pieces_of, token_break, piece_break}
use Rattle.mad_wrap.specs.declared.room.Room.{Room}
use Rattle.mad_wrap.proofs.BoundLemmas.{total_width-append}
use Rattle.mad_wrap.proofs.KeepLemmas.{SomeOnEach}
use Rattle.mad_wrap.proofs.LeastLemmas.{TokensHaveRoom}
use Rattle.mad_wrap.proofs.PlacingLemmas.{total_width-push}

-- ---- the pieces of a wider word

-- the pieces of what is left of a word that is wider than the limit, and of the tokens that come
abbrev pub wide_pieces : ℕ → List Token → List Piece
wide_pieces limit [] = []
wide_pieces limit (t ∷ ts) = if t.blank then alone t ∷ pieces_after limit [] ts else alone t ∷ wide_pieces limit ts

-- a word that is no wider than the limit is one piece
pub word_fits : (limit : ℕ) (word : List Token) → total_width word ≤ limit → word_pieces limit word ≡ together word
word_fits limit word fits = let on : nat_le (total_width word) limit ≡ true = grind (arith, nat_tests) in ap (λ b. if b then together word else map alone word) on

word_wide : (limit : ℕ) (word : List Token) → limit < total_width word → word_pieces limit word ≡ map alone word
word_wide limit word wide = let off : nat_le (total_width word) limit ≡ false = grind (arith, nat_tests) in ap (λ b. if b then together word else map alone word) off

-- tokens with one more at their end, each alone, are these and then that one
pub alone_push : (word : List Token) (t : Token) (ps : List Piece) → map alone (word ++ t ∷ []) ++ ps ≡ map alone word ++ (alone t ∷ ps)
alone_push word t ps = ap (λ l. l ++ ps) (map-append alone word (t ∷ [])) ∙ append_assoc (map alone word) (alone t ∷ []) ps

-- a blank token
pub after_blank : (limit : ℕ) (word ts : List Token) (t : Token) → t.blank ≡ true → pieces_after limit word (t ∷ ts) ≡ word_pieces limit word ++ (alone t ∷ pieces_after limit [] ts)
after_blank limit word ts t e = ap (λ b. if b then word_pieces limit word ++ (alone t ∷ pieces_after limit [] ts) else pieces_after limit (word ++ t ∷ []) ts) e

-- one that isn't
pub after_solid : (limit : ℕ) (word ts : List Token) (t : Token) → t.blank ≡ false → pieces_after limit word (t ∷ ts) ≡ pieces_after limit (word ++ t ∷ []) ts
after_solid limit word ts t e = ap (λ b. if b then word_pieces limit word ++ (alone t ∷ pieces_after limit [] ts) else pieces_after limit (word ++ t ∷ []) ts) e

-- a blank token ends a wider word
pub wide_blank : (limit : ℕ) (ts : List Token) (t : Token) → t.blank ≡ true → wide_pieces limit (t ∷ ts) ≡ alone t ∷ pieces_after limit [] ts
wide_blank limit ts t e = ap (λ b. if b then alone t ∷ pieces_after limit [] ts else alone t ∷ wide_pieces limit ts) e

-- a token that isn't blank goes on with a wider word, alone
pub wide_solid : (limit : ℕ) (ts : List Token) (t : Token) → t.blank ≡ false → wide_pieces limit (t ∷ ts) ≡ alone t ∷ wide_pieces limit ts
wide_solid limit ts t e = ap (λ b. if b then alone t ∷ pieces_after limit [] ts else alone t ∷ wide_pieces limit ts) e

wide_by : (limit : ℕ) (word ts : List Token) (t : Token) (b : Bool) → limit < total_width word → t.blank ≡ b → pieces_after limit (word ++ t ∷ []) ts ≡ map alone (word ++ t ∷ []) ++ wide_pieces limit ts
    → pieces_after limit word (t ∷ ts) ≡ map alone word ++ wide_pieces limit (t ∷ ts)
wide_by limit word ts t true wide e more =
    after_blank limit word ts t e ∙ ap (λ l. l ++ (alone t ∷ pieces_after limit [] ts)) (word_wide limit word wide) ∙ ap (λ l. map alone word ++ l) (sym (wide_blank limit ts t e))
wide_by limit word ts t false wide e more = after_solid limit word ts t e ∙ more ∙ alone_push word t (wide_pieces limit ts) ∙ ap (λ l. map alone word ++ l) (sym (wide_solid limit ts t e))

-- a word that is wider than the limit is its tokens, each alone, and the pieces of what is left of it
pub after_wide : (limit : ℕ) (word ts : List Token) → limit < total_width word → pieces_after limit word ts ≡ map alone word ++ wide_pieces limit ts
after_wide limit word [] wide = word_wide limit word wide ∙ sym (append-nil (map alone word))
after_wide limit word (t ∷ ts) wide = wide_by limit word ts t t.blank wide refl (after_wide limit (word ++ t ∷ []) ts (omega (arith, wide, total_width-push word t)))

-- ---- all tokens are in pieces

tokens_together : (word : List Token) → pieces_tokens (together word) ≡ word
tokens_together [] = refl
tokens_together (t ∷ ts) = append-nil (t ∷ ts)

tokens_alone : (word : List Token) → pieces_tokens (map alone word) ≡ word
tokens_alone [] = refl
tokens_alone (t ∷ ts) = ap (λ l. t ∷ l) (tokens_alone ts)

word_tokens_by : (word : List Token) (b : Bool) → pieces_tokens (if b then together word else map alone word) ≡ word
word_tokens_by word true = tokens_together word
word_tokens_by word false = tokens_alone word

word_tokens : (limit : ℕ) (word : List Token) → pieces_tokens (word_pieces limit word) ≡ word
word_tokens limit word = word_tokens_by word (nat_le (total_width word) limit)

tokens_by : (limit : ℕ) (word ts : List Token) (t : Token) (b : Bool) → t.blank ≡ b → pieces_tokens (pieces_after limit [] ts) ≡ ts → pieces_tokens (pieces_after limit (word ++ t ∷ []) ts) ≡ (word ++ t ∷ []) ++ ts
    → pieces_tokens (pieces_after limit word (t ∷ ts)) ≡ word ++ t ∷ ts
tokens_by limit word ts t true e after more =
    ap pieces_tokens (after_blank limit word ts t e) ∙ flat_map-append piece_tokens (word_pieces limit word) (alone t ∷ pieces_after limit [] ts)
    ∙ ap (λ l. l ++ (t ∷ pieces_tokens (pieces_after limit [] ts))) (word_tokens limit word) ∙ ap (λ l. word ++ (t ∷ l)) after
tokens_by limit word ts t false e after more = ap pieces_tokens (after_solid limit word ts t e) ∙ more ∙ append_assoc word (t ∷ []) ts

after_tokens : (limit : ℕ) (word ts : List Token) → pieces_tokens (pieces_after limit word ts) ≡ word ++ ts
after_tokens limit word [] = word_tokens limit word ∙ sym (append-nil word)
after_tokens limit word (t ∷ ts) = tokens_by limit word ts t t.blank refl (after_tokens limit [] ts) (after_tokens limit (word ++ t ∷ []) ts)

-- the pieces of tokens have these tokens, in order
pub all_tokens : (limit : ℕ) (ts : List Token) → pieces_tokens (pieces_of limit ts) ≡ ts
all_tokens limit ts = after_tokens limit [] ts

-- ---- what holds of each piece

-- a blank piece is one token
abbrev pub IsLone : Piece → Type 0
IsLone p = p.first.blank ≡ true → p.others ≡ []

-- the tokens aren't blank
abbrev AllSolid : List Token → Type 0
AllSolid ts = AllByRecursion (λ t. t.blank ≡ false) ts

all_alone : (P : Piece → Type 0) → ((t : Token) → P (alone t)) → (word : List Token) → AllByRecursion P (map alone word)
all_alone P f [] = tt
all_alone P f (t ∷ ts) = (f t, all_alone P f ts)

word_lone : (word : List Token) (b : Bool) → AllSolid word → AllByRecursion IsLone (if b then together word else map alone word)
word_lone word false solid = all_alone IsLone (λ t e. refl) word
word_lone [] true solid = tt
word_lone (t ∷ ts) true solid = (λ e. absurd (let both : true ≡ false = sym e ∙ solid.0 in cc), tt)

lone_by : (limit : ℕ) (word ts : List Token) (t : Token) (b : Bool) → AllSolid word → t.blank ≡ b → AllByRecursion IsLone (pieces_after limit [] ts)
    → (t.blank ≡ false → AllByRecursion IsLone (pieces_after limit (word ++ t ∷ []) ts)) → AllByRecursion IsLone (pieces_after limit word (t ∷ ts))
lone_by limit word ts t true solid e after more =
    subst (AllByRecursion IsLone) (sym (after_blank limit word ts t e))
    (all_joined IsLone (word_pieces limit word) (alone t ∷ pieces_after limit [] ts) (word_lone word (nat_le (total_width word) limit) solid) (λ _. refl, after))
lone_by limit word ts t false solid e after more = subst (AllByRecursion IsLone) (sym (after_solid limit word ts t e)) (more e)

after_lone : (limit : ℕ) (word ts : List Token) → AllSolid word → AllByRecursion IsLone (pieces_after limit word ts)
after_lone limit word [] solid = word_lone word (nat_le (total_width word) limit) solid
after_lone limit word (t ∷ ts) solid =
    lone_by limit word ts t t.blank solid refl (after_lone limit [] ts tt) (λ e. after_lone limit (word ++ t ∷ []) ts (all_push (λ t. t.blank ≡ false) word t solid e))

-- a blank piece of tokens is one token
pub pieces_lone : (limit : ℕ) (ts : List Token) → AllByRecursion IsLone (pieces_of limit ts)
pieces_lone limit ts = after_lone limit [] ts tt

-- ---- with room each piece fits on each line

-- a token that has room
abbrev HasPlace : Room → Token → Type 0
HasPlace r t = most_indent r + t.width ≤ r.width

alone_room : (r : Room) (word : List Token) → AllByRecursion (HasPlace r) word → AllByRecursion (HasPlace r) (map as_token (map alone word))
alone_room r [] room = tt
alone_room r (t ∷ ts) room = (omega (arith, room.0), alone_room r ts room.1)

word_room : (r : Room) (word : List Token) (b : Bool) → most_indent r ≤ r.width → nat_le (total_width word) (token_limit r) ≡ b → AllByRecursion (HasPlace r) word → AllByRecursion (HasPlace r) (map as_token (if b then together word else map alone word))
word_room r word false indent e room = alone_room r word room
word_room r [] true indent e room = tt
word_room r (t ∷ ts) true indent e room = let within = leb-true (total_width (t ∷ ts)) (token_limit r) e in (omega (arith, within, indent), tt)

room_by : (r : Room) (word ts : List Token) (t : Token) (b : Bool) → most_indent r ≤ r.width → AllByRecursion (HasPlace r) word → HasPlace r t → t.blank ≡ b → AllByRecursion (HasPlace r) (map as_token (pieces_after (token_limit r) [] ts))
    → AllByRecursion (HasPlace r) (map as_token (pieces_after (token_limit r) (word ++ t ∷ []) ts)) → AllByRecursion (HasPlace r) (map as_token (pieces_after (token_limit r) word (t ∷ ts)))
room_by r word ts t true indent begun room e after more =
    let limit = token_limit r in
    let joins = ap (map as_token) (after_blank limit word ts t e) ∙ map-append as_token (word_pieces limit word) (alone t ∷ pieces_after limit [] ts) in
    subst (AllByRecursion (HasPlace r)) (sym joins)
    (all_joined (HasPlace r) (map as_token (word_pieces limit word)) (map as_token (alone t ∷ pieces_after limit [] ts)) (word_room r word (nat_le (total_width word) limit) indent refl begun) (omega (arith, room), after))
room_by r word ts t false indent begun room e after more = subst (λ ps. AllByRecursion (HasPlace r) (map as_token ps)) (sym (after_solid (token_limit r) word ts t e)) more

after_room : (r : Room) (word ts : List Token) → most_indent r ≤ r.width → AllByRecursion (HasPlace r) word → AllByRecursion (HasPlace r) ts → AllByRecursion (HasPlace r) (map as_token (pieces_after (token_limit r) word ts))
after_room r word [] indent begun room = word_room r word (nat_le (total_width word) (token_limit r)) indent refl begun
after_room r word (t ∷ ts) indent begun room =
    room_by r word ts t t.blank indent begun room.0 refl (after_room r [] ts indent tt room.1) (after_room r (word ++ t ∷ []) ts indent (all_push (HasPlace r) word t begun room.0) room.1)

-- with room for each token, there is room for each piece
pub room_for_pieces : (r : Room) (ts : List Token) → TokensHaveRoom r ts → TokensHaveRoom r (map as_token (pieces_of (token_limit r) ts))
room_for_pieces r ts room = record { indent = room.indent; each = after_room r [] ts room.indent tt room.each }

-- ---- breaks of pieces, and of their tokens

-- pieces take as many columns as their tokens
pub pieces_width : (ps : List Piece) → total_width (map as_token ps) ≡ total_width (pieces_tokens ps)
pieces_width [] = refl
pieces_width (p ∷ ps) = omega (arith, pieces_width ps, total_width-append (piece_tokens p) (pieces_tokens ps))

-- a break of pieces, as one of their tokens, has the tokens of all pieces
pub token_break_covers : (bs : List (LineAndGap Piece)) → lines_and_gaps (token_break bs) ≡ pieces_tokens (lines_and_gaps bs)
token_break_covers [] = refl
token_break_covers (b ∷ bs) =
    ap (λ l. pieces_tokens b.line ++ (pieces_tokens b.gap ++ l)) (token_break_covers bs) ∙ ap (λ l. pieces_tokens b.line ++ l) (sym (flat_map-append piece_tokens b.gap (lines_and_gaps bs)))
    ∙ sym (flat_map-append piece_tokens b.line (b.gap ++ lines_and_gaps bs))

-- a break of pieces, each as one token, has all pieces so
pub piece_break_covers : (bs : List (LineAndGap Piece)) → lines_and_gaps (piece_break bs) ≡ map as_token (lines_and_gaps bs)
piece_break_covers [] = refl
piece_break_covers (b ∷ bs) =
    ap (λ l. map as_token b.line ++ (map as_token b.gap ++ l)) (piece_break_covers bs) ∙ ap (λ l. map as_token b.line ++ l) (sym (map-append as_token b.gap (lines_and_gaps bs)))
    ∙ sym (map-append as_token b.line (b.gap ++ lines_and_gaps bs))

-- a break of pieces has as many lines as one of their tokens
pub length-token_break : (bs : List (LineAndGap Piece)) → length (token_break bs) ≡ length bs
length-token_break [] = refl
length-token_break (b ∷ bs) = omega (arith, length-token_break bs)

-- a break of pieces has as many lines with each as one token
pub length-piece_break : (bs : List (LineAndGap Piece)) → length (piece_break bs) ≡ length bs
length-piece_break [] = refl
length-piece_break (b ∷ bs) = omega (arith, length-piece_break bs)

-- what holds of the pieces of a gap, and of those after it
gap_pieces : (P : Piece → Type 0) (b : LineAndGap Piece) (bs : List (LineAndGap Piece)) → AllByRecursion P (lines_and_gaps (b ∷ bs)) → AllByRecursion P b.gap
gap_pieces P b bs h = all_front P b.gap (lines_and_gaps bs) (all_back P b.line (b.gap ++ lines_and_gaps bs) h)

rest_pieces : (P : Piece → Type 0) (b : LineAndGap Piece) (bs : List (LineAndGap Piece)) → AllByRecursion P (lines_and_gaps (b ∷ bs)) → AllByRecursion P (lines_and_gaps bs)
rest_pieces P b bs h = all_back P b.gap (lines_and_gaps bs) (all_back P b.line (b.gap ++ lines_and_gaps bs) h)

-- blank pieces are blank tokens
blank_tokens : (ps : List Piece) → AllByRecursion IsLone ps → AllBlank (map as_token ps) → AllBlank (pieces_tokens ps)
blank_tokens [] lone blank = tt
blank_tokens (p ∷ ps) lone blank =
    let more : AllBlank p.others = subst AllBlank (sym (lone.0 blank.0)) tt in
    (blank.0, all_joined (λ t. t.blank ≡ true) p.others (pieces_tokens ps) more (blank_tokens ps lone.1 blank.1))

blank_back : (ps : List Piece) → AllBlank (pieces_tokens ps) → AllBlank (map as_token ps)
blank_back [] blank = tt
blank_back (p ∷ ps) blank = (blank.0, blank_back ps (all_back (λ t. t.blank ≡ true) p.others (pieces_tokens ps) blank.1))

-- the first token of a gap is its first piece
gap_forced : (r : Room) (used : ℕ) (ps : List Piece) → AllByRecursion IsLone ps → AllBlank (map as_token ps) → ((t : Token) (others : List Token) → map as_token ps ≡ t ∷ others → r.width < used + t.width)
    → (t : Token) (others : List Token) → pieces_tokens ps ≡ t ∷ others → r.width < used + t.width
gap_forced r used [] lone blank forced t others e = absurd (cc)
gap_forced r used (p ∷ ps) lone blank forced t others e =
    let passes = forced (as_token p) (map as_token ps) refl in
    let one : total_width p.others ≡ 0 = ap total_width (lone.0 blank.0) in
    let same : p.first ≡ t = cc in
    omega (arith, passes, one, ap (λ (u : Token). u.width) same)

-- gaps that are forced for pieces are forced for their tokens
pub token_gaps : (i : ℕ) (r : Room) (bs : List (LineAndGap Piece)) → AllByRecursion IsLone (lines_and_gaps bs) → GapsForced i r (piece_break bs) → GapsForced i r (token_break bs)
token_gaps i r [] lone gaps = tt
token_gaps i r (b ∷ bs) lone gaps =
    let here = gap_pieces IsLone b bs lone in (
      blank_tokens b.gap here gaps.0,
      λ t others e. omega (arith, gap_forced r (i + total_width (map as_token b.line)) b.gap here gaps.0 gaps.1 t others e, pieces_width b.line),
      token_gaps r.other r bs (rest_pieces IsLone b bs lone) gaps.2,
    )

-- lines that fit as pieces fit as their tokens
pub token_fits : (i : ℕ) (r : Room) (bs : List (LineAndGap Piece)) → AllByRecursion IsLone (lines_and_gaps bs) → FitsFrom i r (piece_break bs) → FitsFrom i r (token_break bs)
token_fits i r [] lone fits = tt
token_fits i r (b ∷ bs) lone fits = (
  omega (arith, fits.0, pieces_width b.line),
  blank_tokens b.gap (gap_pieces IsLone b bs lone) fits.1,
  token_fits r.other r bs (rest_pieces IsLone b bs lone) fits.2,
)

-- lines that fit as tokens fit as the pieces of these
pub piece_fits : (i : ℕ) (r : Room) (bs : List (LineAndGap Piece)) → FitsFrom i r (token_break bs) → FitsFrom i r (piece_break bs)
piece_fits i r [] fits = tt
piece_fits i r (b ∷ bs) fits = (omega (arith, fits.0, pieces_width b.line), blank_back b.gap fits.1, piece_fits r.other r bs fits.2)

some_of : (ps : List Piece) → 0 < length (map as_token ps) → 0 < length (pieces_tokens ps)
some_of [] some = absurd (omega arith)
some_of (p ∷ ps) some = omega arith

-- where each line has a piece, each has a token
pub token_some : (bs : List (LineAndGap Piece)) → SomeOnEach (piece_break bs) → SomeOnEach (token_break bs)
token_some [] some = tt
token_some (b ∷ bs) some = (some_of b.line some.0, token_some bs some.1)
