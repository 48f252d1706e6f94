use Rattle.std.proofs.Common.{◌≡◌, ◌++◌, ◌∷◌, [], nat_lt, Bool, true, ap, arith, string_bytes, sym, ◌∙◌}
use Rattle.std.specs.Char.{encode_utf8}
use Rattle.std.specs.Prelude.{if◌then◌else◌}
use Rattle.std.proofs.lemmas.Bool.Decides.{nat_tests}
use Rattle.mad_patterns.proofs.found.push_break.Goals as goal

pub returns-then-index-gt0 : goal.returns-then-index-gt0
unfolding encode_utf8
returns-then-index-gt0 c =
    let some : nat_lt 0 c.args.index ≡ true = grind (arith, nat_tests, c.if-index-gt0.true) in
    c.in_ok-push.ensures.bytes ∙ ap (λ (b : Bool). string_bytes c.args.text.now ++ (if b then 32 ∷ [] else [])) (sym some)
