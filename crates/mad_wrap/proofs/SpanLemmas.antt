-- Plain bytes up to a border are tokens that first fit puts alike, where they fit.
use Rattle.std.proofs.Common.{◌≡◌, ◌⊎◌, inl, inr, ℕ, zero, suc, ◌≤◌, ◌<◌, ◌+◌, ◌-◌, ◌&&◌, not, Bool, true, false, Option, Some, None, List, [], ◌∷◌, ◌++◌, length, nat_le, refl, sym, ap, ◌∙◌, arith, subst, if◌then◌else◌}
use Rattle.std.proofs.lemmas.Bool.{cases_lt, false≢true}
use Rattle.std.proofs.lemmas.Bool.Decides.{nat_tests}
use Rattle.std.specs.Str.{IsUtf8, IsCharBoundary}
use Rattle.mad_md.specs.declared.compound.Compound.{Compound}
use Rattle.mad_measure.specs.Chunks.{ArePlain, AreSteady, IsBorder, IsChunk, is_space_at}
use Rattle.mad_measure.specs.Tokens.{IsTokenAt, AreTokensFrom}
use Rattle.mad_measure.specs.declared.tokens.Token.{Token}
use Rattle.mad_measure.proofs.ChunkLemmas.{ends_by, width_by, blank_by, wider, cut_at}
use Rattle.mad_measure.proofs.ExistLemmas.{token_there}
use Rattle.mad_measure.proofs.TokenLemmas.{ends_at_border}
use Rattle.mad_wrap.specs.Breaks.{total_width}
use Rattle.mad_wrap.specs.FirstFit.{Puts, IsFullFor}
use Rattle.mad_wrap.specs.LineRoom.{left_of, fits_in, taken}
use Rattle.mad_wrap.specs.Spans.{PutsOnLine, PutsAlike, IsSpan, IsFullAt, IsFullHere}
use Rattle.mad_wrap.specs.declared.first_fit.FirstFit.{FirstFit}
use Rattle.mad_wrap.specs.declared.first_fit.Put.TheVariants.{OnLine, OnNext, InGap}
use Rattle.mad_wrap.specs.declared.spans.Span.{Span}
use Rattle.mad_wrap.proofs.PlacingLemmas.{left_of-some}

-- ---- the tokens of plain bytes up to a border

-- the bytes from one up to another are these tokens, one at least, and take a column each
pub record Chunk (max : ℕ) (p : Compound) (at end : ℕ) : Type 0 where
  pub first : Token
  pub is : IsTokenAt max p at first
  pub others : List Token
  pub tokens : (rest : List Token) → AreTokensFrom max p end rest → AreTokensFrom max p first.end_in_compound (others ++ rest)
  pub width : first.width + total_width others ≡ end - at
  pub border : IsCharBoundary p.src.now end

chunk_from : (fuel max at end : ℕ) (p : Compound) → end ≤ at + fuel → IsUtf8 p.src.now → IsCharBoundary p.src.now at → at < end → IsChunk p.src.now p.code at end → Chunk max p at end
chunk_from zero max at end p l utf8 border some chunk = absurd (omega (arith, l, some))
chunk_from (suc fuel) max at end p l utf8 border some chunk =
    let there = token_there max at p (omega (arith, some, chunk.within)) utf8 border in
    let t = there.0 in
    let is = there.1 in
    let within : t.end_in_compound ≤ end = ends_by max at end p t is some chunk in
    let width : t.width ≡ t.end_in_compound - at = width_by max at p t is (λ k low high. chunk.plain k low (omega (arith, high, within))) in
    let more : at < t.end_in_compound = omega (arith, is.begins, is.within.some) in
    let ends : IsCharBoundary p.src.now t.end_in_compound = ends_at_border max at p t is in
    elim (cases_lt t.end_in_compound end) as (λ _. Chunk max p at end) [
      | inl before ↦
          let next = chunk_from fuel max t.end_in_compound end p (omega (arith, l, more)) utf8 ends before (record { within = chunk.within; plain = λ k low high. chunk.plain k (omega (arith, low, more)) high; ends = chunk.ends }) in
          record {
            first = t;
            is = is;
            others = next.first ∷ next.others;
            tokens = λ rest h. (next.is, next.tokens rest h);
            width = omega (arith, width, next.width, before, more);
            border = next.border;
          }
      | inr past ↦
          let same : t.end_in_compound ≡ end = omega (arith, past, within) in
          record {
            first = t;
            is = is;
            others = [];
            tokens = λ rest h. subst (λ n. AreTokensFrom max p n rest) (sym same) h;
            width = omega (arith, width, same);
            border = subst (IsCharBoundary p.src.now) same ends;
          }
    ]

-- which tokens these are
pub chunk : (max at end : ℕ) (p : Compound) → IsUtf8 p.src.now → IsCharBoundary p.src.now at → at < end → IsChunk p.src.now p.code at end → Chunk max p at end
chunk max at end p utf8 border some is = chunk_from (end - at) max at end p (omega (arith, some)) utf8 border some is

-- ---- tokens that fit together

at_most : (n left : ℕ) → n ≤ left → nat_le n left ≡ true
at_most n left l = grind (arith, nat_tests)

fits : (room : Option ℕ) (left n : ℕ) → room ≡ Some left → n ≤ left → fits_in room n ≡ true
fits room left n e l = ap (λ r. fits_in r n) e ∙ at_most n left l

-- first fit puts each of them on the line
pub put_all : (ts : List Token) (s n : FirstFit) (left : ℕ) → s.ended ≡ false → s.room_left ≡ Some left → total_width ts ≤ left → n ≡ record s { room_left = Some (left - total_width ts) } → PutsOnLine s ts n
put_all [] s n left open_line room within after = after ∙ ap (λ r. record s { room_left = r }) (ap Some (omega arith) ∙ sym room)
put_all (t ∷ ts) s n left open_line room within after =
    let m : FirstFit = record s { room_left = taken s.room_left t.width } in
    let rest : taken s.room_left t.width ≡ Some (left - t.width) = ap (λ r. taken r t.width) room in (
      m,
      (open_line, fits s.room_left left t.width room (omega (arith, within)), refl),
      put_all ts m n (left - t.width) open_line rest (omega (arith, within)) (after ∙ ap (λ r. record s { room_left = r }) (ap Some (omega arith))),
    )

-- ---- spans

-- tokens that fit on the line
pub on_line : (max at : ℕ) (p : Compound) (s : FirstFit) (span : Span) (left : ℕ) (c : Chunk max p at span.end) → at < span.end → s.ended ≡ false → s.room_left ≡ Some left → span.end ≤ at + left
    → span.put ≡ OnLine → span.after ≡ record s { room_left = Some (left - (span.end - at)) } → IsSpan max p at s span
on_line max at p s span left c some open_line room within put after =
    let all : FirstFit = record s { room_left = Some (left - total_width (c.first ∷ c.others)) } in
    let same : span.after ≡ all = after ∙ ap (λ n. record s { room_left = Some (left - n) }) (sym c.width) in
    record {
      own = c.first ∷ c.others;
      tokens = λ rest h. (c.is, c.tokens rest h);
      puts = subst (λ q. PutsAlike s (c.first ∷ c.others) q span.after) (sym put) (put_all (c.first ∷ c.others) s span.after left open_line room (omega (arith, c.width, within, some)) same);
      more = some;
      border = c.border;
    }

-- one token, wherever it is put
pub one_token : (max at : ℕ) (p : Compound) (s : FirstFit) (span : Span) (t : Token) → IsTokenAt max p at t → span.end ≡ t.end_in_compound → Puts s t span.put span.after → IsSpan max p at s span
one_token max at p s span t is ends puts = record {
  own = t ∷ [];
  tokens = λ rest h. (is, subst (λ n. AreTokensFrom max p n rest) ends h);
  puts = (span.after, puts, refl);
  more = omega (arith, ends, is.begins, is.within.some);
  border = subst (IsCharBoundary p.src.now) (sym ends) (ends_at_border max at p t is);
}

-- a token that takes the limit
pub cut_chunk : (max at : ℕ) (p : Compound) → IsUtf8 p.src.now → IsCharBoundary p.src.now at → 0 < max → at + max < length p.src.now → ArePlain p.src.now at (at + max + 1) → AreSteady p.src.now at (at + max) (at + max + 1)
    → Chunk max p at (at + max)
cut_chunk max at p utf8 border some inside plain steady =
    let there = token_there max at p (omega (arith, inside)) utf8 border in
    let t = there.0 in
    let is = there.1 in
    let cut = cut_at max at p t is utf8 some inside plain steady in
    record {
      first = t;
      is = is;
      others = [];
      tokens = λ rest h. subst (λ n. AreTokensFrom max p n rest) (sym cut.0) h;
      width = omega (arith, cut.1);
      border = subst (IsCharBoundary p.src.now) cut.0 (ends_at_border max at p t is);
    }

-- ---- where nothing more fits

full_if : (room : Option ℕ) → fits_in room 0 ≡ false → (left : ℕ) → room ≡ Some left → ⊥
full_if None e left h = absurd (cc)
full_if (Some n) e left h = absurd (grind (arith, nat_tests))

-- a line that takes nothing of any width is full here
pub full_here : (s : FirstFit) (max : ℕ) (bs : List ℕ) (at plain : ℕ) → ((n : ℕ) → IsFullAt s n) → IsFullHere s max bs at plain
full_here s max bs at plain full = elim (full 0) as (λ _. IsFullHere s max bs at plain) [
  | inl ended ↦ inl ended
  | inr none ↦ inr (λ left room. absurd (full_if s.room_left none left room))
]

not_within : (room : Option ℕ) (n : ℕ) → ((left : ℕ) → room ≡ Some left → left < n) → fits_in room n ≡ false
not_within None n h = refl
not_within (Some left) n h = let l = h left refl in grind (arith, nat_tests)

-- the border isn't in the room
past_room : (bs : List ℕ) (code : Bool) (at end plain left : ℕ) → at < end → IsChunk bs code at end → (end ≡ length bs) ⊎ (end < plain) → plain ≤ length bs → at < plain → end ≤ plain → AreSteady bs at (at + left) plain → (plain ≡ length bs → at + left < plain)
    → at + left < end
past_room bs code at end plain left some chunk known inside before within steady whole = elim (cases_lt (at + left) end) as (λ _. at + left < end) [
  | inl later ↦ later
  | inr here ↦ elim chunk.ends as (λ _. at + left < end) [
    | inl all ↦ absurd (omega (arith, here, all, whole (omega (arith, all, within, inside))))
    | inr border ↦ elim known as (λ _. at + left < end) [
      | inl all ↦ absurd (omega (arith, all, border.1))
      | inr early ↦ absurd (border.3 (steady end some here early))
    ]
  ]
]

-- a word that ends where blankness changes, and not in the room that is left, doesn't fit
pub word_full : (max at end plain : ℕ) (p : Compound) (s : FirstFit) (t : Token) → IsTokenAt max p at t → IsUtf8 p.src.now → at < end → IsChunk p.src.now p.code at end → (end ≡ length p.src.now) ⊎ (end < plain)
    → plain ≤ length p.src.now → at < plain → end ≤ plain → IsFullHere s max p.src.now at plain → IsFullFor s t
word_full max at end plain p s t is utf8 some chunk known inside before within full = elim full as (λ _. IsFullFor s t) [
  | inl ended ↦ inl ended
  | inr here ↦ inr (not_within s.room_left t.width (λ left room.
      let h = here left room in
      let later : at + left < end = past_room p.src.now p.code at end plain left some chunk known inside before within h.1 h.2 in
      wider max at left p t is utf8 (omega (arith, later, chunk.within)) (λ k low high. chunk.plain k low (omega (arith, high, later))) (λ k low high last. h.1 k low high (omega (arith, high, later, within))) h.0))
]

-- one that takes the limit neither
pub cut_full : (max at plain : ℕ) (p : Compound) (s : FirstFit) (t : Token) → t.width ≡ max → IsFullHere s max p.src.now at plain → IsFullFor s t
cut_full max at plain p s t width full = elim full as (λ _. IsFullFor s t) [
  | inl ended ↦ inl ended
  | inr here ↦ inr (not_within s.room_left t.width (λ left room. omega (arith, (here left room).0, width)))
]

-- ---- a lone space

-- a space alone that doesn't fit is a span in the gap
pub lone_space : (max at plain : ℕ) (p : Compound) (s : FirstFit) (span : Span) → IsUtf8 p.src.now → IsCharBoundary p.src.now at → ArePlain p.src.now at plain → plain ≤ length p.src.now → at < plain
    → is_space_at p.src.now at ≡ true → p.code ≡ false → IsFullAt s 1 → (length p.src.now ≤ at + 1) ⊎ ((at + 1 < plain) × (is_space_at p.src.now (at + 1) ≡ false))
    → span ≡ record { put = InGap; end = at + 1; after = record s { ended = true } } → IsSpan max p at s span
lone_space max at plain p s span utf8 border are inside before space uncoded full ends same =
    let bs = p.src.now in
    let there = token_there max at p (omega (arith, before, inside)) utf8 border in
    let t = there.0 in
    let is = there.1 in
    let one : IsChunk bs p.code at (at + 1) = record {
      within = omega (arith, before, inside);
      plain = λ k low high. are k low (omega (arith, high, before));
      ends = elim ends as (λ _. IsBorder bs p.code (at + 1)) [
        | inl past ↦ inl (omega (arith, past, before, inside))
        | inr more ↦ inr (uncoded, omega (arith, more.0, inside), are (at + 1) (omega arith) more.0, λ e. false≢true (sym more.1 ∙ sym e ∙ ap (is_space_at bs) (omega arith) ∙ space))
      ];
    } in
    let end : t.end_in_compound ≡ at + 1 = omega (arith, ends_by max at (at + 1) p t is (omega arith) one, is.begins, is.within.some) in
    let width : t.width ≡ 1 = omega (arith, end, width_by max at p t is (λ k low high. one.plain k low (omega (arith, high, end)))) in
    let blank : t.blank ≡ true = sym (blank_by max at p t is (are at (omega arith) before)) ∙ ap (λ b. b && not p.code) space ∙ ap not uncoded in
    one_token max at p s span t is (ap (λ (x : Span). x.end) same ∙ sym end)
    (subst (λ (x : Span). Puts s t x.put x.after) (sym same) (blank, subst (IsFullAt s) (sym width) full, refl))

-- ---- the words of `word_on_next`

left_if : (width used left : ℕ) (b : Bool) → nat_le used width ≡ b → (if b then Some (width - used) else None) ≡ Some left → (used ≤ width) × (left ≡ width - used)
left_if width used left true e h = (grind (arith, nat_tests), cc)
left_if width used left false e h = absurd (cc)

-- where some columns are left of a width, they are those that aren't used, and these fit
pub left_is : (width used left : ℕ) → left_of width used ≡ Some left → (used ≤ width) × (left ≡ width - used)
left_is width used left h = left_if width used left (nat_le used width) refl h

-- a token that begins with a graphic character isn't blank
pub solid_word : (max at plain : ℕ) (p : Compound) (t : Token) → IsTokenAt max p at t → ArePlain p.src.now at plain → at < plain → is_space_at p.src.now at ≡ false → t.blank ≡ false
solid_word max at plain p t is are before graphic = sym (blank_by max at p t is (are at (omega arith) before)) ∙ ap (λ b. b && not p.code) graphic

-- the token of `cut_chunk` takes the limit
pub cut_width : (max at : ℕ) (p : Compound) (utf8 : IsUtf8 p.src.now) (border : IsCharBoundary p.src.now at) (some : 0 < max) (inside : at + max < length p.src.now) (plain : ArePlain p.src.now at (at + max + 1))
    (steady : AreSteady p.src.now at (at + max) (at + max + 1)) → (cut_chunk max at p utf8 border some inside plain steady).first.width ≡ max
cut_width max at p utf8 border some inside plain steady =
    let t = cut_chunk max at p utf8 border some inside plain steady in
    (cut_at max at p t.first t.is utf8 some inside plain steady).1

-- tokens that fit on the next line, where the first isn't blank and doesn't fit on this one
pub on_next_at : (max at end : ℕ) (p : Compound) (s : FirstFit) (span : Span) (c : Chunk max p at end) → span.end ≡ end → at < end → c.first.blank ≡ false → IsFullFor s c.first → s.room.other + (end - at) ≤ s.room.width
    → span.put ≡ OnNext → span.after ≡ record { room = s.room; room_left = Some (s.room.width - s.room.other - (end - at)); ended = false } → IsSpan max p at s span
on_next_at max at end p s span c ends some solid full within put after =
    let t = c.first in
    let left = s.room.width - (s.room.other + t.width) in
    let m : FirstFit = record { room = s.room; room_left = left_of s.room.width (s.room.other + t.width); ended = false } in
    let room : left_of s.room.width (s.room.other + t.width) ≡ Some left = left_of-some s.room.width (s.room.other + t.width) (omega (arith, c.width, within)) in
    let same : span.after ≡ record m { room_left = Some (left - total_width c.others) } = after ∙ ap (λ n. record m { room_left = Some n }) (omega (arith, c.width, within)) in
    record {
      own = t ∷ c.others;
      tokens = λ rest h. (c.is, c.tokens rest (subst (λ n. AreTokensFrom max p n rest) ends h));
      puts = subst (λ q. PutsAlike s (t ∷ c.others) q span.after) (sym put) (m, (solid, full, refl), put_all c.others m span.after left refl room (omega (arith, c.width, within)) same);
      more = omega (arith, ends, some);
      border = subst (IsCharBoundary p.src.now) (sym ends) c.border;
    }
