use Rattle.std.proofs.Common.{◌≡◌, ◌<◌, ◌+◌, ◌-◌, ◌∷◌, [], ◌++◌, sym, ap, ◌∙◌, subst, arith, List, length, take, map, get_or}
use Rattle.std.proofs.lemmas.List.{map_more}
use Rattle.mad_edit.specs.Editor.{Editor, replaced, offset_at, clamp_in}
use Rattle.mad_edit.specs.Undo.{Cut, LeadsTo, all_undone, cut_of}
use Rattle.mad_edit.proofs.UndoLemmas.{undone_last, undone_more, put_in_there}
use Rattle.mad_edit.proofs.content.InputFieldContent.undo_cuts.Goals as goal

pub cuts-preserved : goal.cuts-preserved
cuts-preserved c = record {
  within = omega (arith, c.cuts.invariant.within);
  so_far = λ first accepted leads.
      let pairs = c.args.cuts.now in
      let i = c.cuts.left - 1 in
      let last = c.cuts.undone.text in
      let n = c.set_cursor_pos.new.self.offset in
      let within : i < length pairs = omega (arith, c.cuts.invariant.within) in
      let next : c.cuts.left ≡ i + 1 = omega arith in
      let cut = cut_of (get_or pairs i (record { y = 0; x = 0 }, record { ref_ptr = (0, 0); now = [] })) in
      let at : n ≡ offset_at last (clamp_in last cut.position) = ap (λ (e : Editor). e.offset) c.set_cursor_pos.ensures in
      let made : c.insert_str.new.self.text ≡ replaced last n n cut.text =
      c.in_ok-insert_str.ensures.ok.text ∙ ap (λ (e : Editor). replaced e.text n n cut.text) c.set_cursor_pos.ensures in
      let cuts : map cut_of (take c.cuts.left pairs) ≡ map cut_of (take i pairs) ++ cut ∷ [] =
      ap (λ k. map cut_of (take k pairs)) next ∙ map_more cut_of pairs i (record { y = 0; x = 0 }, record { ref_ptr = (0, 0); now = [] }) within in
      undone_last first (map cut_of (take i pairs)) cut last c.insert_str.new.self.text n accepted at made
      (subst (λ (cs : List Cut). LeadsTo first cs last) cuts (c.cuts.invariant.so_far first accepted leads));
  editor =
      let pairs = c.args.cuts.now in
      let i = c.cuts.left - 1 in
      let before = c.cuts.undone in
      let within : i < length pairs = omega (arith, c.cuts.invariant.within) in
      let next : c.cuts.left ≡ i + 1 = omega arith in
      let cut = cut_of (get_or pairs i (record { y = 0; x = 0 }, record { ref_ptr = (0, 0); now = [] })) in
      let made = put_in_there before c.set_cursor_pos.new.self c.insert_str.new.self (offset_at before.text (clamp_in before.text cut.position)) cut.text
      c.set_cursor_pos.ensures c.in_ok-insert_str.ensures.ok in
      c.cuts.invariant.editor
      ∙ ap (λ (cs : List Cut). all_undone cs before) (ap (λ k. map cut_of (take k pairs)) next ∙ map_more cut_of pairs i (record { y = 0; x = 0 }, record { ref_ptr = (0, 0); now = [] }) within)
      ∙ undone_more (map cut_of (take i pairs)) cut before
      ∙ ap (λ (e : Editor). all_undone (map cut_of (take i pairs)) e) (sym made);
}
