use Rattle.std.proofs.Common.{◌≡◌, sym, arith, [], ◌∷◌, ap, ◌∙◌, reverse, string_bytes}
use Rattle.std.proofs.lemmas.List.{reverse-append}
use Rattle.std.proofs.lemmas.Str.{IsUtf8-string_bytes}
use Rattle.markdown_inlines.proofs.StyledLemmas.{push_same, push_other}
use Rattle.markdown_inlines.proofs.styled.Styled.push.Goals as goal

pub returns-then-goes_on-clause-pushed : goal.returns-then-goes_on-clause-pushed
returns-then-goes_on-clause-pushed c =
    let old = c.args.self.now in
    (push_same (reverse old.runs.items) (string_bytes old.text) (string_bytes c.push.new.self) c.args.c c.args.look.now (IsUtf8-string_bytes old.text) (IsUtf8-string_bytes c.push.new.self)
    c.in_ok-push.ensures.bytes (sym c.goes_on.ensures ∙ c.if-goes_on.true) c.requires).spells

pub returns-then-goes_on-clause-styled : goal.returns-then-goes_on-clause-styled
returns-then-goes_on-clause-styled c =
    let old = c.args.self.now in
    (push_same (reverse old.runs.items) (string_bytes old.text) (string_bytes c.push.new.self) c.args.c c.args.look.now (IsUtf8-string_bytes old.text) (IsUtf8-string_bytes c.push.new.self)
    c.in_ok-push.ensures.bytes (sym c.goes_on.ensures ∙ c.if-goes_on.true) c.requires).are

pub returns-clause-pushed : goal.returns-clause-pushed
returns-clause-pushed c =
    let old = c.args.self.now in
    let more : reverse c.push-2.new.self.items ≡ record { start = c.len.result; look = c.args.look.now } ∷ reverse old.runs.items =
    ap reverse c.in_ok-push-2.ensures.items ∙ reverse-append old.runs.items (record { start = c.len.result; look = c.args.look.now } ∷ []) in
    (push_other (reverse old.runs.items) (reverse c.push-2.new.self.items) (string_bytes old.text) (string_bytes c.push-3.new.self) c.args.c c.len.result c.args.look.now
    (IsUtf8-string_bytes old.text) (IsUtf8-string_bytes c.push-3.new.self) c.in_ok-push-3.ensures.bytes (omega (arith, c.len.ensures, old.text.bytes.ok)) more (sym c.goes_on.ensures ∙ c.if-goes_on.false) c.requires).spells

pub returns-clause-styled : goal.returns-clause-styled
returns-clause-styled c =
    let old = c.args.self.now in
    let more : reverse c.push-2.new.self.items ≡ record { start = c.len.result; look = c.args.look.now } ∷ reverse old.runs.items =
    ap reverse c.in_ok-push-2.ensures.items ∙ reverse-append old.runs.items (record { start = c.len.result; look = c.args.look.now } ∷ []) in
    (push_other (reverse old.runs.items) (reverse c.push-2.new.self.items) (string_bytes old.text) (string_bytes c.push-3.new.self) c.args.c c.len.result c.args.look.now
    (IsUtf8-string_bytes old.text) (IsUtf8-string_bytes c.push-3.new.self) c.in_ok-push-3.ensures.bytes (omega (arith, c.len.ensures, old.text.bytes.ok)) more (sym c.goes_on.ensures ∙ c.if-goes_on.false) c.requires).are
