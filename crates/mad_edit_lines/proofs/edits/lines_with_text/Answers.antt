use Rattle.std.proofs.Common.{◌≡◌, ◌++◌, ap, sym, ◌∙◌, length, [], ◌+◌, true}
use Rattle.std.proofs.lemmas.List.{map-append, map-id}
use Rattle.std.proofs.lemmas.List.Elements.{All-append, All-cons, All-nil}
use Rattle.std.proofs.lemmas.Iterator.{YieldsList-from_chars}
use Rattle.std.proofs.lemmas.Iterator.Consumers.{YieldsList-end}
use Rattle.std.specs.Str.{chars}
use Rattle.std.specs.Char.{IsScalar}
use Rattle.mad_edit_lines.specs.TextLines.{lines_of, accepted, is_line_char, IsLineText}
use Rattle.mad_edit_lines.proofs.TextLemmas.{typed_text, typed_end}
use Rattle.mad_edit_lines.proofs.edits.lines_with_text.Goals as goal

all_read : (c : goal.In_ok-push) → c.loop-c.yielded ≡ chars c.args.text.now
all_read c =
    sym (map-id c.loop-c.yielded) ∙ (YieldsList-end (YieldsList-from_chars c.args.text.now c.utf8.text cc) c.loop-c.yielded _ c.loop-c.yielded_by _ _ c.in-None.is c.next.ensures.steps).0

pub returns-clause-text : goal.returns-clause-text
returns-clause-text c =
    rw (c.in_ok-push.ensures.items) (
    typed_text c.loop-c.lines.items (record { chars = c.extend_from_slice.new.self }) c.loop-c.current.items c.args.front.now _ c.args.back.now c.loop-c.invariant.0 c.in_ok-extend_from_slice.ensures.items
    ∙ ap (λ t. c.args.front.now ++ (accepted t ++ c.args.back.now)) (all_read c))

pub returns-clause-ends_at : goal.returns-clause-ends_at
returns-clause-ends_at c =
    let done : c.len.result ≡ length c.loop-c.lines.items = c.len.ensures ∙ c.loop-c.lines.ok.0 in
    let at : c.len-2.result ≡ length c.loop-c.current.items = c.len-2.ensures ∙ c.loop-c.current.ok.0 in
    rw (c.in_ok-push.ensures.items, done, at) (
    typed_end c.loop-c.lines.items (record { chars = c.extend_from_slice.new.self }) c.loop-c.current.items c.args.front.now _ c.loop-c.invariant.0
    ∙ ap (λ t. length c.args.front.now + length (accepted t)) (all_read c))

pub returns-clause-texts : goal.returns-clause-texts
returns-clause-texts c =
    rw (c.in_ok-push.ensures.items, map-append) (
    All-append IsLineText (lines_of c.loop-c.lines.items) _ c.loop-c.invariant.1.lines
    (All-cons IsLineText _ [] (rw c.in_ok-extend_from_slice.ensures.items (All-append (λ x. (is_line_char x ≡ true) × IsScalar x) _ _ c.loop-c.invariant.1.line c.requires.back)) (All-nil IsLineText)))
