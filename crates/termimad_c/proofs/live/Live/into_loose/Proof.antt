-- `into_loose` hands on what is owned behind the pointer. Assumes `Logic`.
use Rattle.std.proofs.Common.{◌≡◌, List, [], ◌∷◌, ◌++◌, refl, ap, ◌∙◌, Some, Option}
use mir.Syntax.{Fn, impl, tnil, dnil}
use mir.Raw.{raw as bare}
use mir.Val.{Val, vptr}
use base.Logic.{SProp, emp, never, fst∗}
use prog.Wp.{WpFn}
use contract.Monad.{fact, fact_i}
use contract.Running.{tables}
use types.Logic.{sem}
use types.Kit.{‵, raw, ◌⊛◌, prop, ◌$◌, ◌∵◌, !, qed, by, move, drop, use0, split, regoal, rewrite, fsplit, fjoin}
use types.Part.{agg, sub, whole}
use types.Run.{stop, fld, of_opd, no_more, and_then, returns, enter}
use types.ByLocal.{alloc_all, pass_all, free_all, look_at, get, get_in, sets}
use denote.Exit.{rest, yes}
use denote.Memory.{lone}
use denote.RattleType.{owns}
use denote.RawPtr.{Ptr, block_ptr, null_ptr, in_a_block}
use denote.Signature.{types_at}
use denote.Steps.{nothing, heard}
use denote.Triple.Entry.{alive}
use denote.Triple.Walked.{Stays, stay_dropped, walk_of}
use Rattle.core.proofs.alloc.Calls.{Al, Goes-blank, handle_tells}
use Rattle.std.proofs.raw_atomic.Walks.{proved_at, leaves}
use Rattle.std.specs.Box.Ownership.{box_owns}
use Rattle.std.specs.contracts.alloc.Global as heap
use Rattle.std.proofs.alloc.Global.TheLaws as heap_laws
use Rattle.std.specs.contracts.impls.GlobalAllocator.TheImpl.{ghosts}
use Rattle.termimad_c.proofs.Values.{both, loose_good, loose_in}
use Rattle.termimad_c.proofs.HeldValues.{slot_at, word, word_typed}
use Rattle.termimad_c.proofs.LiveValues.{held_out}
use Rattle.termimad_c.specs.HeldGrowths.{holds_growing, IsHeld}
use Rattle.termimad_c.specs.HeldTexts.{the_heap}
use Rattle.termimad_c.specs.contracts.growing.Growing as growing
use Rattle.termimad_c.specs.declared.growing.Growing.{Growing}
use Rattle.termimad_c.specs.contracts.live.Live as held
use Rattle.termimad_c.specs.contracts.live.Live.into_loose.{ended, clauses}
use Rattle.termimad_c.specs.contracts.live.Live.into_loose.Key.{name as #self}
use Rattle.termimad_c.proofs.live.Live.into_loose.Statement.{statement}
use Rattle.termimad_c.proofs.live.Live.into_loose.Code as code

pub into_loose_spec : {M : Type 1} → statement M
into_loose_spec 𝓤 𝓛 𝓜 𝓡 wired =
    let H = 𝓛.H in let En = ended in let c = clauses 𝓛 𝓜.mem 𝓡.returns in let fn : Fn = code.function in
    let C = (tables 𝓤 H 𝓜 𝓡 𝓡.env).C in let Λ = (tables 𝓤 H 𝓜 𝓡 𝓡.env).Λ in
    let al : Al = record { row = heap.the_row; laws = heap_laws.the_row_laws; g = ghosts; d = impl [] tnil dnil; drops = impl [] tnil dnil } in
    let stays : Stays En.signature.params En.kept = (stay_dropped (slot_at 0 En.signature.params) En.kept.0, (stay_dropped (slot_at 1 En.signature.params) En.kept.1.0, tt)) in
    proved_at 𝓛 En stays c 𝓜 𝓡 (Goes-blank 𝓛 0 (slot_at 0 En.signature.params) En.kept.0 (λ κs x f. tt), (Goes-blank 𝓛 0 (slot_at 1 En.signature.params) En.kept.1.0 (λ κs x f. tt), tt)) #self fn (code.unfolded 𝓤 H 𝓜 𝓡 wired) (λ z are.
    let Post : Val → SProp 𝓤 = (walk_of 𝓛 En stays c).post z in let v = z.0.3.0 in let a = z.0.3.1.0 in
    qed 𝓛 ((raw (alive 𝓛 En.signature z.0.0 z.0.1) ⊛ ‵ (owns (types_at En.signature.params z.0.0) z.0.3 z.0.4)) ∷ raw (fact 𝓤 (IsHeld v.growing)) ∷ []) ∵ move ! (1 ∷ []) $ heard ! (IsHeld v.growing) (λ asked. let x = asked.0 in split ! $ move ! (1 ∷ []) $
    fsplit ! $ held_out ! v z.0.4.0 (λ ws. rewrite ! 0 (λ (t : Option Growing). ‵ (holds_growing v.at t)) asked.1 refl $
    in_a_block ! v.at (λ p. box_owns (ghosts.dealloc_token the_heap) growing.the_row p x) (fst∗ 𝓤 (never 𝓤) (sem 𝓛 (ghosts.dealloc_token the_heap (bare (lone growing.the_row.mir)) null_ptr))) (λ b o e.
    move ! (1 ∷ []) $ fsplit ! $ handle_tells al ! a z.0.4.1.0 (λ h ea fits. move ! (1 ∷ []) $ drop ! $
    let good = loose_good growing.the_row heap.the_row heap_laws.the_row_laws ghosts b o h fits in
    regoal ! (λ (us : List Val). prop (WpFn 𝓤 H C Λ fn us Post)) (λ i. (ws ∙ ap (λ (p : Ptr). word p ∷ []) e) i ++ (ea i ++ [])) refl $
    enter ! C Λ fn (word (block_ptr b o) ∷ h ∷ []) Post $ alloc_all ! (λ l. pass_all ! refl (word_typed (block_ptr b o), (fits, tt)) $
    sets ! (of_opd ! (get_in ! (fld ! refl (stop !)) (sub ! 0 refl (whole !)))) refl (tt, tt) $
    sets ! (of_opd ! (get ! refl)) refl (tt, tt) $
    sets ! (agg ! (and_then ! (get ! refl) (and_then ! (get ! refl) (no_more !)))) refl good $
    returns ! (look_at ! 0 refl) $ free_all ! refl $
    move ! (1 ∷ []) $ loose_in growing.the_row heap.the_row heap_laws.the_row_laws ghosts ! b o h a x $ use0 𝓛 (raw (fact 𝓤 (v.growing ≡ Some x))) (fact_i 𝓤 (v.growing ≡ Some x) (emp 𝓤) asked.1) $ nothing ! $ nothing ! $ fjoin ! $ nothing ! $ fjoin ! $ move ! (3 ∷ 0 ∷ 2 ∷ 1 ∷ []) $
    by ! (leaves 𝓛 En stays c z (both (vptr b o) h) (record { at = block_ptr b o; alloc = a; value = x }) (rest (held.the_row.exit yes) v, (rest (heap.the_row.exit yes) a, tt)) (tt, (tt, tt)))))))))
