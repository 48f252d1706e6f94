use Rattle.std.proofs.Common.{◌≡◌, ◌++◌, ◌≤◌, List, ℕ, Some, length, take, refl, subst, arith}
use Rattle.std.proofs.lemmas.Bool.Decides.{Decides-eqb}
use Rattle.std.proofs.lemmas.List.{take_all}
use Rattle.std.proofs.lemmas.Slice.Eq.{strip_prefix_is, strip_suffix_is}
use Rattle.mad_live.specs.StyledRows.{reset, IsStyling}
use Rattle.mad_live.specs.declared.styling.Styling.{Styling}
use Rattle.mad_live.proofs.StylingLemmas.{grows_by}
use Rattle.mad_live.proofs.styling.growth_in_style.Goals as goal

pub returns-in-Styled : goal.returns-in-Styled
returns-in-Styled c =
    let front : List ℕ = c.in_ok-front.front.now in
    let was : c.args.shown.now ≡ front ++ reset = strip_suffix_is Decides-eqb c.args.shown.now reset (Some c.in_ok-front.front) c.in_ok-front.ensures.cases in
    let is : c.args.wanted.now ≡ front ++ c.in_ok-more.more.now = strip_prefix_is Decides-eqb c.args.wanted.now front (Some c.in_ok-more.more) c.in_ok-more.ensures.cases in
    let size : length front ≤ c.loop-i.i = omega arith in
    let all : take c.loop-i.i front ≡ front = take_all c.loop-i.i front size in
    grows_by c.args.shown.now c.args.wanted.now front c.in_ok-more.more.now _ c.in-Styled.begin c.in-Styled.end was is (subst (λ (s : Styling). IsStyling front s) c.in-Styled.is (subst (λ (l : List ℕ). IsStyling l c.loop-i.styling) all c.loop-i.invariant)) refl
