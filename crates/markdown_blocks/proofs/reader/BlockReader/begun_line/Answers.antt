use Rattle.std.proofs.Common.{◌≡◌, ℕ, ◌-◌, ◌==◌, ◌&&◌, ◌++◌, Bool, false, not, List, ap, ◌∙◌, length}
use Rattle.markdown_marks.specs.Remaining.{remaining}
use Rattle.markdown_blocks.specs.Containers.{opened, ends_in_item}
use Rattle.markdown_blocks.specs.Leaves.{is_paragraph, is_table, only_defines}
use Rattle.markdown_blocks.specs.Steps.{state_of, kept_after}
use Rattle.markdown_blocks.proofs.LineLemmas.{kept_items, begun_count, begun_line_is}
use Rattle.markdown_blocks.proofs.reader.BlockReader.begun_line.Goals as goal

pub returns-clause-ok : goal.returns-clause-ok
returns-clause-ok c =
    let old = c.args.self.now.containers.items in
    let grown = c.open_containers.new.containers.items in
    let before = length c.as_slice-before.result.now in
    let before_is : before ≡ length old = ap length c.as_slice-before.ensures.value in
    let paragraph = is_paragraph c.args.self.now.leaf in
    let all = c.args.count == before in
    let all_is : all ≡ (c.args.count == length old) = ap (λ (n : ℕ). c.args.count == n) before_is in
    let in_is : c.both-in_paragraph.result ≡ (paragraph && all) = c.both-in_paragraph.ensures ∙ ap (λ (p : Bool). p && all) c.is_paragraph.ensures in
    let room_is : c.saturating_sub-room.result ≡ 64 - c.args.count = c.saturating_sub-room.ensures in
    let opens = opened (64 - c.args.count) c.both-in_paragraph.result (remaining c.args.rest) in
    let opens_at = λ (n : ℕ). opened n c.both-in_paragraph.result (remaining c.args.rest) in
    let grown_is : grown ≡ old ++ opens.containers = c.in_ok-bare.ensures.items ∙ ap (λ (n : ℕ). old ++ (opens_at n).containers) room_is in
    let bare_is : c.in_ok-bare.bare ≡ ends_in_item false opens.containers = c.in_ok-bare.ensures.bare ∙ ap (λ (n : ℕ). ends_in_item false (opens_at n).containers) room_is in
    let left_is : remaining c.in_ok-bare.rest ≡ opens.rest = c.in_ok-bare.ensures.rest ∙ ap (λ (n : ℕ). (opens_at n).rest) room_is in
    let begun = length c.as_slice.result.now - before in
    let begun_is : begun ≡ length opens.containers = begun_count c.as_slice.result.now grown old opens.containers before c.as_slice.ensures.value grown_is before_is in
    let none = begun == 0 in
    let defines = c.only_defines-defines.result in
    let defines_is : defines ≡ only_defines c.args.self.now.defining.items all (remaining c.in_ok-bare.rest) =
    c.only_defines-defines.ensures ∙ ap (λ (d : List ℕ). only_defines d all (remaining c.in_ok-bare.rest)) c.as_slice-defining.ensures.value in
    let alone_is : c.both-alone.result ≡ (paragraph && none) = c.both-alone.ensures ∙ ap (λ (p : Bool). p && none) c.is_paragraph-2.ensures in
    let may_is : c.both-may_join.result ≡ (paragraph && none && not defines) = c.both-may_join.ensures ∙ ap (λ (p : Bool). p && not defines) alone_is in
    let row_is : c.both-row.result ≡ (is_table c.args.self.now.leaf && none && all) = c.both-row.ensures ∙ ap (λ (t : Bool). t && all) (c.both-in_table.ensures ∙ ap (λ (t : Bool). t && none) c.is_table.ensures) in
    let kept_is : c.kept_after-kept.result ≡ kept_after c.deed_of-deed.result c.args.count (length old) = c.kept_after-kept.ensures.value ∙ ap (kept_after c.deed_of-deed.result c.args.count) before_is in
    let items_is = kept_items c.drop_between.new.containers.items grown old opens.containers c.kept_after-kept.result before grown_is before_is c.kept_after-kept.ensures.within c.drop_between.ensures in
    begun_line_is (state_of c.args.self.now) c.args.count (remaining c.args.rest) (remaining c.in_ok-bare.rest) c.both-in_paragraph.result c.both-may_join.result c.both-row.result all defines c.in_ok-bare.bare
    c.joining_or_row-joining.result c.leaf_start-begun.result.start (remaining c.leaf_start-begun.result.text) c.deed_of-deed.result c.leaf_after-self.result c.keep_defining.new.defining.items c.cells_after-self.result
    c.kept_after-kept.result begun c.drop_between.new.containers.items
    all_is in_is begun_is bare_is left_is defines_is may_is row_is c.joining_or_row-joining.ensures c.leaf_start-begun.ensures c.deed_of-deed.ensures kept_is c.leaf_after-self.ensures
    c.in_ok-keep_defining.ensures.ok c.cells_after-self.ensures items_is
