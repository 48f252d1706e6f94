use Rattle.std.proofs.Common.{◌≡◌, [], ◌∷◌, reverse, string_bytes, sym, ap, ◌∙◌, arith}
use Rattle.std.proofs.lemmas.List.{reverse-append}
use Rattle.markdown_inlines.specs.Styled.{spelled_of}
use Rattle.markdown_inlines.proofs.PlainLemmas.{shown_same, shown_other, shown_none}
use Rattle.markdown_inlines.proofs.styled.Styled.push_text.Goals as goal

pub returns-then-is_empty-clause-pushed : goal.returns-then-is_empty-clause-pushed
returns-then-is_empty-clause-pushed c = shown_none (spelled_of c.args.self.now) c.args.text.now c.args.look.now (grind (arith, c.is_empty.ensures, c.if-is_empty.true))

pub returns-then-goes_on-clause-pushed : goal.returns-then-goes_on-clause-pushed
returns-then-goes_on-clause-pushed c =
    let old = c.args.self.now in
    (shown_same (reverse old.runs.items) (string_bytes old.text) (string_bytes c.push_shown.new.shown) c.args.text.now c.args.look.now (c.in_ok-push_shown.ensures) (sym c.goes_on.ensures ∙ c.if-goes_on.true) c.requires).spells

pub returns-then-goes_on-clause-styled : goal.returns-then-goes_on-clause-styled
returns-then-goes_on-clause-styled c =
    let old = c.args.self.now in
    (shown_same (reverse old.runs.items) (string_bytes old.text) (string_bytes c.push_shown.new.shown) c.args.text.now c.args.look.now (c.in_ok-push_shown.ensures) (sym c.goes_on.ensures ∙ c.if-goes_on.true) c.requires).are

pub returns : goal.returns
returns c =
    let old = c.args.self.now in
    let more : reverse c.push.new.self.items ≡ record { start = c.len.result; look = c.args.look.now } ∷ reverse old.runs.items =
    ap reverse c.in_ok-push.ensures.items ∙ reverse-append old.runs.items (record { start = c.len.result; look = c.args.look.now } ∷ []) in
    let done =
    shown_other (reverse old.runs.items) (reverse c.push.new.self.items) (string_bytes old.text) (string_bytes c.push_shown-2.new.shown) c.args.text.now c.len.result c.args.look.now
    (c.in_ok-push_shown-2.ensures) (grind (arith, c.is_empty.ensures, c.if-is_empty.false)) (omega (arith, c.len.ensures, old.text.bytes.ok)) more (sym c.goes_on.ensures ∙ c.if-goes_on.false) c.requires in
    record { pushed = done.spells; styled = done.are }
