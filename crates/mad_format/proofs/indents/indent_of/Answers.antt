use Rattle.std.proofs.Common.{arith}
use Rattle.std.proofs.lemmas.Fmt.{length-decimal-le}
use Rattle.mad_format.proofs.indents.indent_of.Goals as goal

pub later_indent-requires-in-OrderedListItemFollowUp : goal.later_indent-requires-in-OrderedListItemFollowUp
later_indent-requires-in-OrderedListItemFollowUp c =
    let digits = length-decimal-le 10 c.in-OrderedListItemFollowUp.index (omega arith) (omega arith) (omega arith) in
    omega (arith, digits, c.ordered_item_indent-in-OrderedListItemFollowUp.ensures)
