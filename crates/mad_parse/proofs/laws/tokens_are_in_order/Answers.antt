use Rattle.mad_parse.proofs.Examples.{lost, swapped}
use Rattle.mad_parse.proofs.laws.tokens_are_in_order.Goals as goal

pub returns : goal.returns
returns c = record { lost = lost; swapped = swapped }
