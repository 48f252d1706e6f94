use Rattle.std.proofs.Common.{◌+◌, refl, sym, ap, ◌∙◌}
use Rattle.mad_md.specs.Flagged.{flags_of}
use Rattle.mad_sections.specs.CellWords.{capped}
use Rattle.mad_sections.proofs.WordLemmas.{after_letter}
use Rattle.mad_sections.proofs.cell_words.Words.with_char.Goals as goal

pub returns-else-is_blank : goal.returns-else-is_blank
returns-else-is_blank c = λ rest. after_letter c.args.self _ (record { char = c.args.c; flags = flags_of c.args.compound.now }) rest (sym c.is_blank.ensures ∙ c.if-is_blank.false) refl (c.saturating_add.ensures ∙ ap (λ n. capped (c.args.self.last + n)) c.char_columns.ensures.value)
