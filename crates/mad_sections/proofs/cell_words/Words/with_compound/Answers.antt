use Rattle.std.proofs.Common.{◌++◌, sym, ap, ◌∙◌}
use Rattle.std.proofs.lemmas.Str.{IsUtf8-past_char, chars_past_char}
use Rattle.std.proofs.StrCases.{chars_of_empty}
use Rattle.mad_md.specs.Flagged.{flagged, flags_of}
use Rattle.mad_sections.specs.CellWords.{longest_after}
use Rattle.mad_sections.proofs.WordLemmas.{step_over}
use Rattle.mad_sections.proofs.cell_words.Words.with_compound.Goals as goal

pub loop-c-preserved : goal.loop-c-preserved
loop-c-preserved c =
    let held = c.loop-c.invariant in
    let parts = c.in-Some.ensures.steps.0 in
    let step = chars_past_char _ _ c.in-Some.c held.utf8 parts in
    record {
      utf8 = IsUtf8-past_char _ _ c.in-Some.c held.utf8 parts;
      so_far = λ rest. step_over c.args.compound.now c.in-Some.c _ _ c.loop-c.words c.with_char-words.result rest step c.with_char-words.ensures ∙ held.so_far rest;
    }

pub returns : goal.returns
returns c = λ rest. ap (λ cs. longest_after c.loop-c.words (flagged (flags_of c.args.compound.now) cs ++ rest)) (sym (chars_of_empty _ c.in-None.ensures.steps.0.0)) ∙ c.loop-c.invariant.so_far rest
