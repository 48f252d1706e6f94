use Rattle.std.proofs.Common.{◌≡◌, ◌≢◌, ◌≤◌, ◌<◌, ◌+◌, ◌-◌, ◌⊎◌, ℕ, false, length, drop, sym, ◌∙◌, ap, arith, rules}
use Rattle.std.specs.Char.{encode_utf8}
use Rattle.std.specs.Str.Iter.{char_indices_offset, char_indices_rest}
use Rattle.std.proofs.lemmas.Str.{IsUtf8-drop, length-encode}
use Rattle.std.proofs.lemmas.List.{length-append, length-drop}
use Rattle.std.proofs.StrCases.{chars_of_empty}
use Rattle.mad_characters.specs.Columns.{char_columns}
use Rattle.mad_md.specs.Flagged.{flags_of, is_blank}
use Rattle.mad_measure.proofs.TokenLemmas.{front_start, token_is, stops_at}
use Rattle.mad_wrap.proofs.WideLemmas.{one_more}
use Rattle.mad_wrap.proofs.wide_tokens.wide_token_at.Goals as goal

pub loop-index-init : goal.loop-index-init
loop-index-init c =
    let p = c.args.compound in
    let bs = p.src.now in
    let same = c.into_iter-index-iterator.ensures.into_iter_gives in
    let none : char_indices_offset c.into_iter-index-iterator.result ≡ 0 = ap char_indices_offset same ∙ c.char_indices-index-items.ensures.offset in
    let rest : drop c.args.start bs ≡ char_indices_rest c.into_iter-index-iterator.result = sym c.range_from.ensures.value ∙ sym c.char_indices-index-items.ensures.rest ∙ sym (ap char_indices_rest same) in
    record {
      front = rw none (front_start c.args.max (flags_of p) (drop c.args.start bs) false (IsUtf8-drop bs c.args.start (search rules) c.requires.border));
      position = rw none rest;
    }

pub goes_on-requires : goal.goes_on-requires
goes_on-requires c =
    let held = c.loop-index.invariant in
    let bs = c.args.compound.src.now in
    let n = char_indices_offset c.loop-index.index-iterator in
    let parts = held.position ∙ c.in-Some.ensures.steps.1 in
    omega (arith, c.measured-c_blank.ensures.bytes, held.front.bound, held.front.within, c.bytes_in-end.ensures.fits, length-drop c.args.start bs, length-drop n (drop c.args.start bs), length-encode c.in-Some.c, (simp length-append at (ap length parts)))

pub returns : goal.returns
returns c =
    let held = c.loop-index.invariant in
    let bs = c.args.compound.src.now in
    let inside : c.args.start ≤ length bs = omega (arith, c.requires.inside) in
    let n = char_indices_offset c.loop-index.index-iterator in
    let none : length (drop n (drop c.args.start bs)) ≡ 0 = ap length held.position ∙ c.in-None.ensures.steps.0 in
    let all : c.bytes_in-end.result - c.args.start ≡ n =
    omega (arith, none, held.front.within, c.requires.inside, c.bytes_in-end.ensures.value, length-drop n (drop c.args.start bs), length-drop c.args.start bs) in
    token_is _ _ _ _ _ _ c.token_between-2.result inside c.requires.border (omega (arith, c.requires.inside, c.bytes_in-end.ensures.value)) (rw all held.front) (rw (all, chars_of_empty _ none) tt) c.token_between-2.ensures

pub returns-then-not-goes_on : goal.returns-then-not-goes_on
returns-then-not-goes_on c =
    let held = c.loop-index.invariant in
    let inside : c.args.start ≤ length c.args.compound.src.now = omega (arith, c.requires.inside) in
    let n = char_indices_offset c.loop-index.index-iterator in
    let size : c.args.start + n - c.args.start ≡ n = omega arith in
    let stop = c.goes_on.ensures.stops c.if-not-goes_on.true in
    let parts = held.position ∙ c.in-Some.ensures.steps.1 in
    let why : (is_blank (record { char = c.in-Some.c; flags = flags_of c.args.compound }) ≢ c.loop-index.blank) ⊎ (c.args.max < c.loop-index.width + char_columns c.in-Some.c) =
    rw (sym c.measured-c_blank.ensures.blank, sym c.measured-c_blank.ensures.columns) stop.1 in
    let stops = stops_at c.args.max (flags_of c.args.compound) (drop n (drop c.args.start c.args.compound.src.now)) (char_indices_rest c.next.new.self) c.in-Some.c c.loop-index.width c.loop-index.blank held.front.rest parts why in
    token_is c.args.max c.args.start (c.args.start + n) c.loop-index.width c.loop-index.blank c.args.compound c.token_between.result inside c.requires.border (omega (arith, stop.0, c.in-Some.ensures.steps.0)) (rw size held.front) (rw size stops) (rw (sym c.in-Some.ensures.steps.0) c.token_between.ensures)

pub loop-index-preserved : goal.loop-index-preserved
loop-index-preserved c =
    let held = c.loop-index.invariant in
    let bs = c.args.compound.src.now in
    let n = char_indices_offset c.loop-index.index-iterator in
    let new = char_indices_offset c.next.new.self in
    let moved : new ≡ n + length (encode_utf8 c.in-Some.c) = omega (arith, c.in-Some.ensures.steps.2) in
    let taken = rw c.in-Some.ensures.steps.0 at (c.goes_on.ensures.takes (search rules)) in
    let more = one_more c.args.max (flags_of c.args.compound) (drop c.args.start bs) (char_indices_rest c.next.new.self) n new c.in-Some.c c.loop-index.width c.measured-c_blank.result.1 _ _ held.front
    (held.position ∙ c.in-Some.ensures.steps.1) moved c.measured-c_blank.ensures.columns c.measured-c_blank.ensures.bytes c.measured-c_blank.ensures.blank taken in
    record { front = more.front; position = more.position }
