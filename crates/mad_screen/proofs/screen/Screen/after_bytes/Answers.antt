use Rattle.std.proofs.Common.{◌≡◌, Some, None, sym, ap, ◌∙◌, arith}
use Rattle.std.specs.Str.{chars}
use Rattle.mad_screen.specs.Terminal.{feed_all, resting}
use Rattle.mad_screen.specs.Readers.{reading_of}
use Rattle.mad_screen.proofs.Feeding.{read_is, read_none}
use Rattle.mad_screen.proofs.screen.Screen.after_bytes.Goals as goal

pub returns-in_default-clause-not_plain : goal.returns-in_default-clause-not_plain
returns-in_default-clause-not_plain c = λ _. read_none _ _ c.in_default.ensures.cases.0

pub returns-then-not-branch-clause-not_plain : goal.returns-then-not-branch-clause-not_plain
returns-then-not-branch-clause-not_plain c =
    let here : reading_of c.new-reader.result ≡ resting c.args.self.now = c.new-reader.ensures ∙ ap resting c.in_ok-copy_onto.ensures in
    let same : chars c.in-Ok.text.now ≡ chars c.args.bytes.now = ap chars c.in-Ok.ensures.cases.0 in
    let fed : feed_all (chars c.in-Ok.text.now) (reading_of c.new-reader.result) ≡ None = grind arith in
    λ _. read_is c.args.self.now c.args.bytes.now None c.in-Ok.ensures.cases.1
    (ap (λ l. feed_all l (resting c.args.self.now)) (sym same) ∙ ap (feed_all (chars c.in-Ok.text.now)) (sym here) ∙ fed)

pub returns-in_default-finish-clause-not_plain : goal.returns-in_default-finish-clause-not_plain
returns-in_default-finish-clause-not_plain c =
    let here : reading_of c.new-reader.result ≡ resting c.args.self.now = c.new-reader.ensures ∙ ap resting c.in_ok-copy_onto.ensures in
    let same : chars c.in-Ok.text.now ≡ chars c.args.bytes.now = ap chars c.in-Ok.ensures.cases.0 in
    let fed : feed_all (chars c.in-Ok.text.now) (reading_of c.new-reader.result) ≡ Some (reading_of c.feed_all.new.self) = grind arith in
    λ _. read_is c.args.self.now c.args.bytes.now (Some (reading_of c.feed_all.new.self)) c.in-Ok.ensures.cases.1
    (ap (λ l. feed_all l (resting c.args.self.now)) (sym same) ∙ ap (feed_all (chars c.in-Ok.text.now)) (sym here) ∙ fed)
    ∙ sym c.in_default-finish.ensures

pub returns-clause-read : goal.returns-clause-read
returns-clause-read c =
    let here : reading_of c.new-reader.result ≡ resting c.args.self.now = c.new-reader.ensures ∙ ap resting c.in_ok-copy_onto.ensures in
    let same : chars c.in-Ok.text.now ≡ chars c.args.bytes.now = ap chars c.in-Ok.ensures.cases.0 in
    let fed : feed_all (chars c.in-Ok.text.now) (reading_of c.new-reader.result) ≡ Some (reading_of c.feed_all.new.self) = grind arith in
    read_is c.args.self.now c.args.bytes.now (Some (reading_of c.feed_all.new.self)) c.in-Ok.ensures.cases.1
    (ap (λ l. feed_all l (resting c.args.self.now)) (sym same) ∙ ap (feed_all (chars c.in-Ok.text.now)) (sym here) ∙ fed)
    ∙ sym c.in-Some.ensures
