use Rattle.std.proofs.Common.{◌≡◌, ◌∙◌, ◌++◌, List, ℕ, ap, drop, length, refl, sym, take, rules, arith}
use Rattle.std.proofs.lemmas.List.{take-append-drop, take_all}
use Rattle.mad_term.specs.Trace.{Trace, after, failed}
use Rattle.mad_frames.proofs.SparingLemmas.{failed_bytes, flush_bytes, sent_keeps}
use Rattle.mad_frames.proofs.sparing.Sparing.send.Goals as goal

pub invariant_of-self : goal.invariant_of-self
invariant_of-self g c =
    let n = c.put_counted-taken.result.0 in
    let unsent = c.self.inside.unsent.items in
    let before : Trace = g.O.Out.seen c.self.inside.below in
    let went : g.O.Out.seen c.put_counted-taken.new.out ≡ failed (after before (take n unsent)) = search rules in
    let left : c.drop_front.new.bytes.items ≡ drop n unsent = search rules in
    sent_keeps _ _ (take n unsent) (ap (λ (t : Trace). t.bytes) went ∙ failed_bytes (after before (take n unsent))) (sym (ap (λ (l : List ℕ). take n unsent ++ l) left ∙ take-append-drop n unsent)) refl refl refl c.self.invariant

pub invariant_of-self-2 : goal.invariant_of-self-2
invariant_of-self-2 g c =
    let n = c.put_counted-taken.result.0 in
    let unsent = c.self.inside.unsent.items in
    let before : Trace = g.O.Out.seen c.self.inside.below in
    let went : g.O.Out.seen c.put_counted-taken.new.out ≡ after before unsent = search rules in
    let all : n ≡ length unsent = search rules in
    let left : c.drop_front.new.bytes.items ≡ drop n unsent = search rules in
    let bytes : (g.O.Out.seen c.flush.new.self).bytes ≡ (after before (take n unsent)).bytes =
    flush_bytes (g.O.Out.seen c.put_counted-taken.new.out) (g.O.Out.seen c.flush.new.self) c.flush.result c.flush.ensures
    ∙ ap (λ (t : Trace). t.bytes) (went ∙ ap (after before) (sym (take_all n unsent (omega (arith, all))))) in
    sent_keeps _ _ (take n unsent) bytes (sym (ap (λ (l : List ℕ). take n unsent ++ l) left ∙ take-append-drop n unsent)) refl refl refl c.self.invariant
