use Rattle.std.proofs.Common.{◌++◌, ℕ, List, length, drop, string_bytes, ap, ◌∙◌, arith}
use Rattle.std.proofs.lemmas.Iterator.{YieldsList-from_chars}
use Rattle.std.proofs.lemmas.Iterator.Consumers.{YieldsList-turn, YieldsList-end}
use Rattle.std.proofs.lemmas.List.{length_push}
use Rattle.std.specs.Str.{chars, encode_utf8_all}
use Rattle.markdown_anchors.specs.Anchors.{heading_name, name_bytes}
use Rattle.markdown_anchors.proofs.NameLemmas.{name_step, name_end}
use Rattle.markdown_anchors.proofs.names.push_heading_name.Goals as goal

pub loop-c-preserved : goal.loop-c-preserved
loop-c-preserved c =
    let t = YieldsList-turn (YieldsList-from_chars c.args.text.now c.utf8.text cc) c.loop-c.yielded _ c.loop-c.yielded_by _ _ c.in-Some.c c.in-Some.is c.next.ensures.steps in
    let cs : List ℕ = chars c.args.text.now in
    ap (λ n. string_bytes c.push_char.new.name ++ encode_utf8_all (heading_name (drop n cs))) (length_push c.loop-c.yielded c.in-Some.c)
    ∙ name_step cs (length c.loop-c.yielded) c.in-Some.c (string_bytes c.loop-c.name) (string_bytes c.push_char.new.name) (string_bytes c.args.name.now ++ name_bytes c.args.text.now) t c.loop-c.invariant c.in_ok-push_char.ensures

pub returns : goal.returns
returns c =
    let t = YieldsList-end (YieldsList-from_chars c.args.text.now c.utf8.text cc) c.loop-c.yielded _ c.loop-c.yielded_by _ _ c.in-None.is c.next.ensures.steps in
    name_end (chars c.args.text.now) (length c.loop-c.yielded) (string_bytes c.loop-c.name) (string_bytes c.args.name.now ++ name_bytes c.args.text.now) (omega (arith, t.1)) c.loop-c.invariant
