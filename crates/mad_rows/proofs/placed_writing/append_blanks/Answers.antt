use Rattle.std.proofs.Common.{◌≡◌, ℕ, List, ◌++◌, ◌∙◌, replicate, ap, arith, string_bytes}
use Rattle.mad_rows.proofs.PlacedLemmas.{blank_put, blanks_bytes}
use Rattle.mad_rows.proofs.placed_writing.append_blanks.Goals as goal

pub loop-done-preserved : goal.loop-done-preserved
loop-done-preserved c = blank_put (string_bytes c.args.rows.now) (string_bytes c.loop-done.rows) (string_bytes c.push_str.new.self) c.loop-done._done c.loop-done.invariant c.in_ok-push_str.ensures.bytes

pub returns : goal.returns
returns c =
    let old : List ℕ = string_bytes c.args.rows.now in
    let all : c.loop-done._done ≡ c.args.blanks.count = omega (arith, c.loop-done-test.false, c.loop-done.auto._done-end) in
    c.loop-done.invariant ∙ ap (λ (k : ℕ). old ++ replicate k 32) all
    ∙ ap (λ (l : List ℕ). old ++ l) (blanks_bytes c.args.blanks.style c.args.blanks.count (c.is_unstyled.ensures.unstyled.0 c.if-not-is_unstyled.false))
