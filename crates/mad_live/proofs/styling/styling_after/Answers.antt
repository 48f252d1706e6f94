use Rattle.std.proofs.Common.{◌≡◌, ◌+◌, [], ◌∷◌, length, refl, subst, rules}
use Rattle.std.proofs.lemmas.Bool.Decides.{Decides-eqb}
use Rattle.std.proofs.lemmas.Slice.Eq.{ends_is}
use Rattle.mad_live.specs.StyledRows.{IsStyling}
use Rattle.mad_live.specs.declared.styling.Styling.{Styling}
use Rattle.mad_live.proofs.StylingLemmas.{newline_plain, reset_plain, style_ends, numbers_more, text_more, more_begins}
use Rattle.mad_live.proofs.styling.styling_after.Goals as goal

pub returns-then-byte-eq10 : goal.returns-then-byte-eq10
returns-then-byte-eq10 c = λ h. newline_plain c.args.front.now c.args.byte c.if-byte-eq10.true

pub returns-then-ends_with : goal.returns-then-ends_with
returns-then-ends_with c = λ h. reset_plain c.args.front.now _ c.args.byte c.if-byte-eq109.true ((ends_is Decides-eqb c.args.front.now (27 ∷ 91 ∷ 48 ∷ []) c.ends_with.result c.ends_with.ensures.value).0 c.if-ends_with.true)

pub returns-then-byte-eq109-2 : goal.returns-then-byte-eq109-2
returns-then-byte-eq109-2 c = λ h. style_ends c.args.front.now c.in-Numbers.begin (length c.args.front.now + 1) c.args.byte c.if-byte-eq109-2.true refl (subst (λ (s : Styling). IsStyling c.args.front.now s) c.in-Numbers.is h)

pub returns-then-byte-lt-FIRST_LETTER : goal.returns-then-byte-lt-FIRST_LETTER
returns-then-byte-lt-FIRST_LETTER c = λ h. numbers_more c.args.front.now c.in-Numbers.begin c.args.byte c.if-byte-lt-FIRST_LETTER.true c.if-byte-eq10.false (subst (λ (s : Styling). IsStyling c.args.front.now s) c.in-Numbers.is h)

pub returns-then-byte-ne-ESCAPE : goal.returns-then-byte-ne-ESCAPE
returns-then-byte-ne-ESCAPE c = λ h. text_more c.args.front.now c.in-Styled.begin c.in-Styled.end c.args.byte c.if-byte-ne-ESCAPE.true c.if-byte-eq10.false (subst (λ (s : Styling). IsStyling c.args.front.now s) c.in-Styled.is h)

pub returns-then-end-front : goal.returns-then-end-front
returns-then-end-front c =
    let is : c.args.byte ≡ 27 = search rules in
    let at : c.in-Styled.end ≡ length c.args.front.now = search rules in
    λ h. more_begins c.args.front.now c.in-Styled.begin c.in-Styled.end c.args.byte is at (subst (λ (s : Styling). IsStyling c.args.front.now s) c.in-Styled.is h)
