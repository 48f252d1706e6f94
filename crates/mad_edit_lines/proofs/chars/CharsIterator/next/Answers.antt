use Rattle.std.proofs.Common.{ℕ, suc, ◌+◌, ◌-◌, ◌<◌, ◌≡◌, List, ◌∷◌, length, take, drop, get_or, slice_get, Some, ap, sym, ◌∙◌, arith, rules}
use Rattle.std.specs.Prelude.{slice_range}
use Rattle.std.proofs.lemmas.List.{drop_more}
use Rattle.std.proofs.lemmas.Option.{get_or_from_slice_get}
use Rattle.mad_edit_lines.specs.TextLines.{lines_of, text_of, offset_of}
use Rattle.mad_edit_lines.proofs.PositionLemmas.{length-text}
use Rattle.mad_edit_lines.proofs.chars.CharsIterator.next.Goals as goal

-- the first of a span, and the rest
span_next : (t : List ℕ) (a b c : ℕ) → a < b → a < length t → slice_get t a ≡ Some c → slice_range t a b ≡ c ∷ slice_range t (a + 1) b
span_next t a b c low within at =
    let more : b - a ≡ suc (b - (a + 1)) = omega arith in
    ap (take (b - a)) (drop_more t a 0 within)
    ∙ ap (λ n. take n (get_or t a 0 ∷ drop (a + 1) t)) more
    ∙ ap (λ x. x ∷ take (b - (a + 1)) (drop (a + 1) t)) (get_or_from_slice_get t a c 0 at)

pub returns-clause-steps : goal.returns-clause-steps
returns-clause-steps c =
    let ls = lines_of c.self.inside.lines.now in
    let t = text_of ls in
    let at = offset_of ls c.self.inside.at in
    let end = offset_of ls c.self.inside.end in
    let before : at < end = (c.is_before.ensures ls c.self.invariant.0 c.self.invariant.1).0 (search rules) in
    let whole = length-text ls c.self.inside.end c.self.invariant.1 in
    sym c.self.view_is
    ∙ span_next t at end c.in_ok-c.c before (omega (arith, whole, before)) c.in_ok-c.ensures.char
    ∙ ap (λ n. c.in_ok-c.c ∷ slice_range t n end) (sym c.in_ok-c.ensures.next)
