use Rattle.std.proofs.Common.{◌≡◌, ◌<◌, ℕ, ◌-◌, ◌&&◌, not, true, eqb, List, length, get_or, sym, ap, ◌∙◌, arith}
use Rattle.std.specs.List.{list_all}
use Rattle.std.proofs.lemmas.Bool.{and_parts}
use Rattle.std.proofs.lemmas.Bool.Decides.{nat_tests}
use Rattle.std.proofs.lemmas.Str.{IsCharBoundary-after_ascii}
use Rattle.markdown_spans.specs.Code.{is_space, is_padded}
use Rattle.markdown_inline_events.proofs.shares.unpadded.Goals as goal

space_small : (b : ℕ) → is_space b ≡ true → b < 128
space_small b h = grind (arith, nat_tests)

padded_small : (bytes : List ℕ) → is_padded bytes ≡ true → get_or bytes 0 0 < 128
padded_small bytes h =
    let some : _ = not (eqb (length bytes) 0) in
    let begin : _ = is_space (get_or bytes 0 0) in
    let end : _ = is_space (get_or bytes (length bytes - 1) 0) in
    let p = and_parts (some && begin && end) (not (list_all is_space bytes)) h in
    let q = and_parts (some && begin) end p.0 in
    let r = and_parts some begin q.0 in
    space_small (get_or bytes 0 0) r.1

pub range-requires-clause-start_boundary : goal.range-requires-clause-start_boundary
range-requires-clause-start_boundary c = λ h.
    IsCharBoundary-after_ascii c.args.text.now 0 c.utf8.text (omega (arith, c.if-text-ge2.true)) (padded_small c.args.text.now (sym (c.is_padded.ensures ∙ ap is_padded c.as_bytes.ensures.value) ∙ c.if-is_padded.true))
