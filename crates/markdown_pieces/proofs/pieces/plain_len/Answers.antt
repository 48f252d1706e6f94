use Rattle.std.proofs.Common.{◌≡◌, ℕ, ◌+◌, suc, List, ◌∷◌, drop, get_or, true, false, refl, sym, ap, ◌∙◌, arith, Some, None}
use Rattle.std.proofs.lemmas.List.{drop_more, length-drop}
use Rattle.markdown_pieces.specs.Pieces.{stays, plain_from}
use Rattle.markdown_pieces.proofs.PlainLemmas.{plain_before, still_inside, plain_step, plain_word, plain_stays_not, plain_is_bare, plain_no_more}
use Rattle.markdown_pieces.proofs.pieces.plain_len.Goals as goal

pub loop-len-preserved : goal.loop-len-preserved
loop-len-preserved c =
    let bytes : List ℕ = c.args.bytes.now in
    let n : ℕ = c.loop-len.len in
    let b : ℕ = get_or bytes n 0 in
    let rest : List ℕ = c.tail-rest.result.now in
    let next : List ℕ = drop (n + 1) bytes in
    let parts : rest ≡ b ∷ next = c.tail-rest.ensures ∙ drop_more bytes n 0 c.loop-len-test.true in
    let staying : stays b rest ≡ true = sym c.stays.ensures ∙ c.if-not-stays.false in
    let step : plain_from c.args.free (Some c.loop-len.last) rest ≡ suc (plain_from c.args.free (Some b) next) =
    plain_step c.args.free c.loop-len.last b rest next parts staying (sym c.is_bare.ensures ∙ c.if-is_bare.false) in
    let here : plain_from c.args.free (Some c.loop-len.last) (drop n bytes) ≡ suc (plain_from c.args.free (Some b) next) = ap (plain_from c.args.free (Some c.loop-len.last)) (sym c.tail-rest.ensures) ∙ step in
    record {
      so_far = omega (arith, here, c.loop-len.invariant.so_far);
      few = omega (arith, c.loop-len-test.true);
      inside = λ h. still_inside b next rest next parts refl staying (sym c.is_blank_byte-inside.ensures ∙ h);
    }

pub returns-then-not-stays-clause-value : goal.returns-then-not-stays-clause-value
returns-then-not-stays-clause-value c =
    let bytes : List ℕ = c.args.bytes.now in
    let n : ℕ = c.loop-len.len in
    let b : ℕ = get_or bytes n 0 in
    let rest : List ℕ = c.tail-rest.result.now in
    let parts : rest ≡ b ∷ drop (n + 1) bytes = c.tail-rest.ensures ∙ drop_more bytes n 0 c.loop-len-test.true in
    let none : plain_from c.args.free (Some c.loop-len.last) rest ≡ 0 = plain_stays_not c.args.free c.loop-len.last b rest (drop (n + 1) bytes) parts (sym c.stays.ensures ∙ c.if-not-stays.true) in
    omega (arith, c.loop-len.invariant.so_far, ap (plain_from c.args.free (Some c.loop-len.last)) (sym c.tail-rest.ensures), none)

pub returns-then-is_bare-clause-value : goal.returns-then-is_bare-clause-value
returns-then-is_bare-clause-value c =
    let bytes : List ℕ = c.args.bytes.now in
    let n : ℕ = c.loop-len.len in
    let b : ℕ = get_or bytes n 0 in
    let rest : List ℕ = c.tail-rest.result.now in
    let parts : rest ≡ b ∷ drop (n + 1) bytes = c.tail-rest.ensures ∙ drop_more bytes n 0 c.loop-len-test.true in
    let none : plain_from c.args.free (Some c.loop-len.last) rest ≡ 0 = plain_is_bare c.args.free c.loop-len.last b rest (drop (n + 1) bytes) parts (sym c.is_bare.ensures ∙ c.if-is_bare.true) in
    omega (arith, c.loop-len.invariant.so_far, ap (plain_from c.args.free (Some c.loop-len.last)) (sym c.tail-rest.ensures), none)

pub returns-clause-value : goal.returns-clause-value
returns-clause-value c =
    let left : List ℕ = drop c.loop-len.len c.args.bytes.now in
    let none : plain_from c.args.free (Some c.loop-len.last) left ≡ 0 = plain_no_more c.args.free (Some c.loop-len.last) left (omega (arith, length-drop c.loop-len.len c.args.bytes.now, c.loop-len-test.false)) in
    omega (arith, c.loop-len.invariant.so_far, none)

pub loop-len-preserved-then-is_in_word : goal.loop-len-preserved-then-is_in_word
loop-len-preserved-then-is_in_word c =
    let bytes : List ℕ = c.args.bytes.now in
    let n : ℕ = c.loop-len.len in
    let b : ℕ = get_or bytes n 0 in
    let step : plain_from c.args.free (Some c.loop-len.last) (drop n bytes) ≡ suc (plain_from c.args.free (Some b) (drop (n + 1) bytes)) =
    plain_word c.args.free c.loop-len.last b (drop n bytes) (drop (n + 1) bytes) (drop_more bytes n 0 c.loop-len-test.true) (c.is_in_word.ensures c.if-is_in_word.true) in
    record {
      so_far = omega (arith, step, c.loop-len.invariant.so_far);
      few = omega (arith, c.loop-len-test.true);
      inside = λ h. absurd (no h);
    }
  where
    no : false ≡ true → ⊥
    no e = cc

pub returns-then-not-free-clause-value : goal.returns-then-not-free-clause-value
returns-then-not-free-clause-value c = c.quiet_len.ensures.value ∙ plain_before c.args.free None (Some c.args.before) c.args.bytes.now c.if-not-free.true
