use Rattle.std.proofs.Common.{◌≡◌, ◌++◌, ◌≤◌, ◌<◌, ◌+◌, ◌-◌, ◌⊎◌, ℕ, Bool, List, false, inl, inr, length, drop, sym, ◌∙◌, ap, arith, rules, subst}
use Rattle.std.specs.Char.{encode_utf8, len_utf8, is_ascii_graphic}
use Rattle.std.specs.Str.Iter.{char_indices_offset, char_indices_rest}
use Rattle.std.proofs.lemmas.Str.{IsCharBoundary-from_rest, IsCharBoundary-from_drop, drop_past_char, IsUtf8-drop, length-encode, len_utf8_bounds}
use Rattle.std.proofs.lemmas.List.{length-drop, length-append, drop-drop, get_or-drop}
use Rattle.std.proofs.StrCases.{chars_of_empty}
use Rattle.mad_characters.specs.Columns.{char_columns}
use Rattle.mad_md.specs.Flagged.{Flags, is_blank, flags_of}
use Rattle.mad_measure.proofs.AsciiLemmas.{graphic_front}
use Rattle.mad_measure.proofs.TokenLemmas.{IsFront, front_more, token_is, stops_at}
use Rattle.mad_measure.proofs.tokens.any_token_at.Goals as goal
use Rattle.mad_measure.proofs.tokens.any_token_at.Goals.{After-graphic_at-width, After-char_columns-c_width, After-into_iter-index-iterator}
use Rattle.mad_measure.proofs.tokens.any_token_at.Goals.{then-width-eq0+in-Some, then-width-eq0+in_default, else-width-eq0}

-- the graphic are a front of a token
graphic_are : (c : After-graphic_at-width) → IsFront c.args.max (flags_of c.args.compound) (drop c.args.start c.args.compound.src.now) c.graphic_at-width.result false c.graphic_at-width.result
graphic_are c =
    let bs = c.args.compound.src.now in
    graphic_front c.args.max (flags_of c.args.compound) (drop c.args.start bs) c.graphic_at-width.result (IsUtf8-drop bs c.args.start (search rules) c.requires.border)
    (omega (arith, c.graphic_at-width.ensures.inside, length-drop c.args.start bs)) c.graphic_at-width.ensures.within
    (λ k l. ap is_ascii_graphic (get_or-drop c.args.start bs k 0) ∙ c.graphic_at-width.ensures.graphic k l)

-- a front of a token, not empty, and what comes after it
abbrev HasFront : (max : ℕ) (f : Flags) (bs rest : List ℕ) (end : ℕ) (blank : Bool) (width : ℕ) → Type 0
HasFront max f bs rest end blank width = (0 < end) × IsFront max f bs end blank width × (drop end bs ≡ rest)

-- a front with one character more
one_more : (max : ℕ) (f : Flags) (bs rest : List ℕ) (end new c width columns : ℕ) (blank b : Bool) → IsFront max f bs end blank width
    → drop end bs ≡ encode_utf8 c ++ rest → new ≡ end + length (encode_utf8 c) → columns ≡ char_columns c → columns ≤ len_utf8 c
    → b ≡ is_blank (record { char = c; flags = f }) → (end ≡ 0) ⊎ ((b ≡ blank) × (width + columns ≤ max))
    → HasFront max f bs rest new b (width + columns)
one_more max f bs rest end new c width columns blank b front parts moved counted narrow same fits =
    let one : end + len_utf8 c ≡ new = omega (arith, moved, length-encode c) in
    let fits_in : (end ≡ 0) ⊎ ((b ≡ blank) × (width + char_columns c ≤ max)) = subst (λ n. (end ≡ 0) ⊎ ((b ≡ blank) × (width + n ≤ max))) counted fits in
    let longer = front_more max f bs rest end c width blank b front parts (subst (λ n. n ≤ len_utf8 c) counted narrow) (sym same) fits_in in
    (omega (arith, one, (len_utf8_bounds c).0), rw (sym one, counted) longer, rw (sym one) (drop_past_char bs rest end c parts))

pub range_from-requires : goal.range_from-requires
range_from-requires c =
    let front = graphic_are ((goal.at.range_from-requires c).After-graphic_at-width) in
    let bs = c.args.compound.src.now in
    let n = c.graphic_at-width.result in
    λ _. IsCharBoundary-from_rest bs c.args.start n (omega (arith, c.requires.inside)) (IsCharBoundary-from_drop (drop c.args.start bs) n front.within front.rest)

pub loop-index-init : goal.loop-index-init
loop-index-init c =
    let bs = c.args.compound.src.now in
    let start = c.args.start in
    let n = c.graphic_at-width.result in
    let f = flags_of c.args.compound in
    let front = graphic_are ((goal.at.loop-index-init c).After-graphic_at-width) in
    let begins = c.if-width-eq0 in
    let none : char_indices_offset c.char_indices-chars.result ≡ 0 = c.char_indices-chars.ensures.offset in
    let rest : drop n (drop start bs) ≡ char_indices_rest c.char_indices-chars.result = drop-drop n start bs ∙ sym c.range_from.ensures.value ∙ sym c.char_indices-chars.ensures.rest in
    let held : HasFront c.args.max f (drop start bs) (char_indices_rest begins.chars) (n + char_indices_offset begins.chars) begins.blank begins.width =
    elim begins.branch as (λ _. HasFront c.args.max f (drop start bs) (char_indices_rest begins.chars) (n + char_indices_offset begins.chars) begins.blank begins.width) [
      | then-width-eq0+in-Some w ↦
          let zero : n ≡ 0 = w.if-width-eq0.true in
          let columns = w.char_columns-width.result in
          let width : begins.width ≡ n + columns = omega (arith, w.width-is, zero) in
          let moved : n + char_indices_offset w.next.new.self ≡ n + length (encode_utf8 w.in-Some.c) = omega (arith, w.in-Some.ensures.steps.2, none) in
          rw (w.chars-is, w.blank-is, width) (one_more c.args.max f (drop start bs) (char_indices_rest w.next.new.self) n (n + char_indices_offset w.next.new.self) w.in-Some.c n columns _ _ front (rest ∙ w.in-Some.ensures.steps.1) moved
          w.char_columns-width.ensures.value w.char_columns-width.ensures.bytes w.is_blank-blank.ensures (inl zero))
      | then-width-eq0+in_default w ↦
          let zero : n ≡ 0 = w.if-width-eq0.true in
          let empty : length (drop n (drop start bs)) ≡ 0 = ap length rest ∙ w.in_default.ensures.steps.0 in
          absurd (omega (arith, zero, empty, c.requires.inside, length-drop n (drop start bs), length-drop start bs))
      | else-width-eq0 w ↦
          let same : n + char_indices_offset c.char_indices-chars.result ≡ n = omega (arith, none) in
          rw (w.chars-is, w.blank-is, w.width-is, same) (omega (arith, w.if-width-eq0.false), front, rest)
    ] in
    let same : start + n + char_indices_offset c.into_iter-index-iterator.result - start ≡ n + char_indices_offset begins.chars = rw c.into_iter-index-iterator.ensures.into_iter_gives (omega arith) in
    record {
      some = rw same held.0;
      front = rw same held.1;
      position = rw (same, c.into_iter-index-iterator.ensures.into_iter_gives) held.2;
    }

-- what comes after the front: the next character, and what comes after it
parts : (c : After-char_columns-c_width) → drop (c.args.start + c.graphic_at-width.result + char_indices_offset c.loop-index.index-iterator - c.args.start) (drop c.args.start c.args.compound.src.now) ≡ encode_utf8 c.in-Some-2.c ++ char_indices_rest c.next-in-loop-index.new.self
parts c = c.loop-index.invariant.position ∙ c.in-Some-2.ensures.steps.1

pub takes_in-requires : goal.takes_in-requires
takes_in-requires c =
    let held = c.loop-index.invariant in
    let n = c.args.start + c.graphic_at-width.result + char_indices_offset c.loop-index.index-iterator - c.args.start in
    let next = (goal.at.takes_in-requires c).After-char_columns-c_width in
    omega (arith, c.char_columns-c_width.ensures.bytes, held.front.bound, held.front.within, c.graphic_at-width.ensures.fits, length-drop c.args.start c.args.compound.src.now, length-drop n (drop c.args.start c.args.compound.src.now), length-encode c.in-Some-2.c, (simp length-append at (ap length (parts next))))

pub returns-then-not-takes_in : goal.returns-then-not-takes_in
returns-then-not-takes_in c =
    let held = c.loop-index.invariant in
    let inside : c.args.start ≤ length c.args.compound.src.now = omega (arith, c.requires.inside) in
    let some : c.args.start < c.args.start + c.graphic_at-width.result + char_indices_offset c.loop-index.index-iterator = omega (arith, held.some) in
    let next = (goal.at.returns-then-not-takes_in c).After-char_columns-c_width in
    let stops = stops_at _ _ _ _ _ _ _ held.front.rest (parts next) (rw (sym c.is_blank-c_blank.ensures, sym c.char_columns-c_width.ensures.value) (c.takes_in.ensures.stops c.if-not-takes_in.true)) in
    token_is _ _ _ _ _ _ c.token_between.result inside c.requires.border some held.front stops (rw (sym c.in-Some-2.ensures.steps.0) c.token_between.ensures)

pub loop-index-preserved : goal.loop-index-preserved
loop-index-preserved c =
    let held = c.loop-index.invariant in
    let next = (goal.at.loop-index-preserved c).After-char_columns-c_width in
    let bs = c.args.compound.src.now in
    let n = c.args.start + c.graphic_at-width.result + char_indices_offset c.loop-index.index-iterator - c.args.start in
    let new = c.args.start + c.graphic_at-width.result + char_indices_offset c.next-in-loop-index.new.self - c.args.start in
    let moved : new ≡ n + length (encode_utf8 c.in-Some-2.c) = omega (arith, c.in-Some-2.ensures.steps.2) in
    let taken = c.takes_in.ensures.takes (search rules) in
    let more = one_more c.args.max (flags_of c.args.compound) (drop c.args.start bs) (char_indices_rest c.next-in-loop-index.new.self) n new c.in-Some-2.c c.loop-index.width c.char_columns-c_width.result _ _ held.front (parts next) moved
    c.char_columns-c_width.ensures.value c.char_columns-c_width.ensures.bytes c.is_blank-c_blank.ensures (inr taken) in
    record {
      some = more.0;
      front = subst (λ b. IsFront c.args.max (flags_of c.args.compound) (drop c.args.start bs) new b (c.loop-index.width + c.char_columns-c_width.result)) taken.0 more.1;
      position = more.2;
    }

pub returns : goal.returns
returns c =
    let held = c.loop-index.invariant in
    let bs = c.args.compound.src.now in
    let inside : c.args.start ≤ length bs = omega (arith, c.requires.inside) in
    let n = c.args.start + c.graphic_at-width.result + char_indices_offset c.loop-index.index-iterator - c.args.start in
    let none : length (drop n (drop c.args.start bs)) ≡ 0 = ap length held.position ∙ c.in-None.ensures.steps.0 in
    let all : length bs - c.args.start ≡ n = omega (arith, none, held.front.within, c.requires.inside, length-drop n (drop c.args.start bs), length-drop c.args.start bs) in
    token_is _ _ _ _ _ _ c.token_between-2.result inside c.requires.border c.requires.inside (rw all held.front)
    (rw (all, chars_of_empty _ none) tt) c.token_between-2.ensures
