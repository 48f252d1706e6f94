use Rattle.std.proofs.Common.{◌≡◌, ◌-◌, ◌++◌, ◌∙◌, ◌∷◌, [], false, length, suc, sym, ap, arith, append-nil}
use Rattle.std.proofs.lemmas.List.{length-append}
use Rattle.markdown_marks.specs.Remaining.{remaining}
use Rattle.markdown_blocks.specs.Containers.{Opens, opened_by, opened, ends_in_item}
use Rattle.markdown_blocks.proofs.ContainerLemmas.{pushed, front_pushed, opened_next, opened_none, opened_full, ends_cons, ends_nil}
use Rattle.markdown_blocks.proofs.containers.open_containers.Goals as goal

pub loop-room-preserved : goal.loop-room-preserved
loop-room-preserved c =
    let room = c.loop-room.room - 1 in
    let e : c.loop-room.room ≡ suc room = omega arith in
    let others = opened room false (remaining c.in-Some.opening.rest) in
    let one = opened_next room c.loop-room.room c.loop-room.interrupts (remaining c.loop-room.left) (opened_by c.in-Some.opening) e (sym c.in-Some.ensures) in
    record {
      items = ap (λ is. is ++ others.containers) c.in_ok-push-in-Some.ensures.items ∙ pushed c.loop-room.containers.items c.in-Some.opening.container others.containers
          ∙ ap (λ (o : Opens). c.loop-room.containers.items ++ o.containers) (sym one) ∙ c.loop-room.invariant.items;
      bare = ap (λ b. ends_in_item b others.containers) c.is_item-is_bare.ensures ∙ sym (ends_cons c.loop-room.is_bare c.in-Some.opening.container others.containers)
          ∙ ap (λ (o : Opens). ends_in_item c.loop-room.is_bare o.containers) (sym one) ∙ c.loop-room.invariant.bare;
      follows = ap (λ (o : Opens). o.rest) (sym one) ∙ c.loop-room.invariant.follows;
      front = front_pushed c.args.containers.now.items c.loop-room.containers.items c.push.new.self.items c.in-Some.opening.container c.in_ok-push-in-Some.ensures.items c.loop-room.invariant.more c.loop-room.invariant.front;
      more = omega (arith, ap length c.in_ok-push-in-Some.ensures.items, length-append c.loop-room.containers.items (c.in-Some.opening.container ∷ []), c.loop-room.invariant.more);
    }

pub returns-in-None-clause-items : goal.returns-in-None-clause-items
returns-in-None-clause-items c =
    let room = c.loop-room.room in
    let none = opened_none (room - 1) room c.loop-room.interrupts (remaining c.loop-room.left) (omega arith) (sym c.in-None.ensures) in
    sym (append-nil c.loop-room.containers.items) ∙ ap (λ (o : Opens). c.loop-room.containers.items ++ o.containers) (sym none) ∙ c.loop-room.invariant.items

pub returns-in-None-clause-bare : goal.returns-in-None-clause-bare
returns-in-None-clause-bare c =
    let room = c.loop-room.room in
    let none = opened_none (room - 1) room c.loop-room.interrupts (remaining c.loop-room.left) (omega arith) (sym c.in-None.ensures) in
    sym (ends_nil c.loop-room.is_bare) ∙ ap (λ (o : Opens). ends_in_item c.loop-room.is_bare o.containers) (sym none) ∙ c.loop-room.invariant.bare

pub returns-in-None-clause-rest : goal.returns-in-None-clause-rest
returns-in-None-clause-rest c =
    let room = c.loop-room.room in
    let none = opened_none (room - 1) room c.loop-room.interrupts (remaining c.loop-room.left) (omega arith) (sym c.in-None.ensures) in
    ap (λ (o : Opens). o.rest) (sym none) ∙ c.loop-room.invariant.follows

pub returns-clause-items : goal.returns-clause-items
returns-clause-items c =
    let full = opened_full c.loop-room.room c.loop-room.interrupts (remaining c.loop-room.left) (omega arith) in
    sym (append-nil c.loop-room.containers.items) ∙ ap (λ (o : Opens). c.loop-room.containers.items ++ o.containers) (sym full) ∙ c.loop-room.invariant.items

pub returns-clause-bare : goal.returns-clause-bare
returns-clause-bare c =
    let full = opened_full c.loop-room.room c.loop-room.interrupts (remaining c.loop-room.left) (omega arith) in
    sym (ends_nil c.loop-room.is_bare) ∙ ap (λ (o : Opens). ends_in_item c.loop-room.is_bare o.containers) (sym full) ∙ c.loop-room.invariant.bare

pub returns-clause-rest : goal.returns-clause-rest
returns-clause-rest c =
    let full = opened_full c.loop-room.room c.loop-room.interrupts (remaining c.loop-room.left) (omega arith) in
    ap (λ (o : Opens). o.rest) (sym full) ∙ c.loop-room.invariant.follows
