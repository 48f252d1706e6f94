use Rattle.std.proofs.Common.{◌≡◌, ◌+◌, ℕ, List, length, drop, Some, None, sym, ap, ◌∙◌, arith, option_and_then}
use Rattle.std.proofs.lemmas.Iterator.{YieldsList-from_chars}
use Rattle.std.proofs.lemmas.List.{length_push}
use Rattle.std.proofs.lemmas.Iterator.Consumers.{YieldsList-turn, YieldsList-end}
use Rattle.std.specs.Str.{chars}
use Rattle.mad_screen.specs.Terminal.{feed, feed_all}
use Rattle.mad_screen.specs.Readers.{reading_of}
use Rattle.mad_screen.proofs.Feeding.{feed_all-drop, feed_all-end}
use Rattle.mad_screen.proofs.reader.Reader.feed_all.Goals as goal

pub returns-then-not-branch : goal.returns-then-not-branch
returns-then-not-branch c =
    let t = YieldsList-turn (YieldsList-from_chars c.args.text.now c.utf8.text cc) c.loop-c.yielded _ c.loop-c.yielded_by _ _ c.in-Some.c c.in-Some.is c.next.ensures.steps in
    let fed : feed (reading_of c.loop-c.self) c.in-Some.c ≡ None = grind arith in
    sym c.loop-c.invariant ∙ feed_all-drop (chars c.args.text.now) (length c.loop-c.yielded) c.in-Some.c (reading_of c.loop-c.self) t ∙ ap (option_and_then (feed_all (drop (length c.loop-c.yielded + 1) (chars c.args.text.now)))) fed

pub loop-c-preserved : goal.loop-c-preserved
loop-c-preserved c =
    let t = YieldsList-turn (YieldsList-from_chars c.args.text.now c.utf8.text cc) c.loop-c.yielded _ c.loop-c.yielded_by _ _ c.in-Some.c c.in-Some.is c.next.ensures.steps in
    let fed : feed (reading_of c.loop-c.self) c.in-Some.c ≡ Some (reading_of c.feed.new.self) = grind arith in
    let cs : List ℕ = chars c.args.text.now in
    ap (λ n. feed_all (drop n cs) (reading_of c.feed.new.self)) (length_push c.loop-c.yielded c.in-Some.c)
    ∙ sym (ap (option_and_then (feed_all (drop (length c.loop-c.yielded + 1) cs))) fed)
    ∙ sym (feed_all-drop cs (length c.loop-c.yielded) c.in-Some.c (reading_of c.loop-c.self) t) ∙ c.loop-c.invariant

pub returns : goal.returns
returns c =
    let t = YieldsList-end (YieldsList-from_chars c.args.text.now c.utf8.text cc) c.loop-c.yielded _ c.loop-c.yielded_by _ _ c.in-None.is c.next.ensures.steps in
    sym c.loop-c.invariant ∙ feed_all-end (chars c.args.text.now) (length c.loop-c.yielded) (reading_of c.loop-c.self) (omega (arith, t.1))
