use Rattle.std.proofs.Common.{◌≡◌, ◌∙◌, sym, map, arith, length}
use Rattle.std.proofs.lemmas.List.{length-map}
use Rattle.mad_widths.specs.Turns.{AreTurns, turn_of}
use Rattle.mad_widths.specs.ColumnWidths.{natural_widths}
use Rattle.mad_widths.specs.SeenCells.{needs_in}
use Rattle.mad_widths.proofs.ShareLemmas.{length-naturals}
use Rattle.mad_widths.proofs.WordLemmas.{word_none, word_taken}
use Rattle.mad_widths.proofs.word_widths.give_up_excess.Goals as goal

pub returns-then-total-available : goal.returns-then-total-available
returns-then-total-available c =
    let ns = map needs_in c.args.columns.now in
    let len : length (natural_widths ns) ≡ length c.args.widths.now = length-naturals ns ∙ length-map c.args.columns.now needs_in ∙ sym c.requires.count in
    word_none (natural_widths ns) c.args.widths.now c.args.least.now c.args.available len c.requires.raised (omega (arith, c.total_width-total.ensures, c.if-total-available.true))

pub give_up_in_turn-requires : goal.give_up_in_turn-requires
give_up_in_turn-requires c =
    let ns = map needs_in c.args.columns.now in
    let len : length (natural_widths ns) ≡ length c.args.widths.now = length-naturals ns ∙ length-map c.args.columns.now needs_in ∙ sym c.requires.count in
    let turns : AreTurns (natural_widths ns) (map turn_of c.deref-2.result.now) = rw (c.deref-2.ensures.value, ← c.in_ok-natural_widths.ensures, ← c.deref.ensures.value) c.in_ok-turns.ensures in
    (word_taken (natural_widths ns) c.args.widths.now c.args.least.now _ _ c.args.available c.total_width-total.result len c.requires.raised c.requires.fits c.total_width-total.ensures turns (c.deref_mut.ensures.value ∙ c.in_ok-requests.ensures)).0

pub returns : goal.returns
returns c =
    let ns = map needs_in c.args.columns.now in
    let len : length (natural_widths ns) ≡ length c.args.widths.now = length-naturals ns ∙ length-map c.args.columns.now needs_in ∙ sym c.requires.count in
    let turns : AreTurns (natural_widths ns) (map turn_of c.deref-2.result.now) = rw (c.deref-2.ensures.value, ← c.in_ok-natural_widths.ensures, ← c.deref.ensures.value) c.in_ok-turns.ensures in
    (word_taken (natural_widths ns) c.args.widths.now c.args.least.now _ _ c.args.available c.total_width-total.result len c.requires.raised c.requires.fits c.total_width-total.ensures turns (c.deref_mut.ensures.value ∙ c.in_ok-requests.ensures)).1 _ c.give_up_in_turn.ensures.widths
