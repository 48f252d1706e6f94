use Rattle.std.proofs.Common.{◌∙◌, ℕ, List, ap, inr, refl}
use Rattle.markdown_lines.specs.Texts.{behind_mark}
use Rattle.termimad_page_run.specs.Comings.{name_coming}
use Rattle.termimad_page_run.proofs.StretchLemmas.{err_exit}
use Rattle.termimad_page_run.proofs.growing.show_read.Goals as goal

pub returns-in_err-row : goal.returns-in_err-row
returns-in_err-row g c = err_exit _ _ _ _ c.from_residual.ensures.1 (inr (record { memory = refl; input = refl; out = refl }))

pub returns-in_err-name : goal.returns-in_err-name
returns-in_err-name g c = err_exit _ _ _ _ c.from_residual-in_err-name.ensures.1 (inr (record { memory = refl; input = refl; out = refl }))

pub returns-in_err-whole : goal.returns-in_err-whole
returns-in_err-whole g c = err_exit _ _ _ _ c.from_residual-in_err-whole.ensures.1 (inr (record { memory = refl; input = refl; out = refl }))

pub show_text-requires-clause-come : goal.show_text-requires-clause-come
show_text-requires-clause-come g c =
    let shown = c.front_shown.ensures in
    record {
      named = c.as_str.ensures.value ∙ (c.in_ok-name.ensures ∙ ap (λ (n : List ℕ). name_coming n c.args.coming.now.ended c.args.coming.now.is_whole) c.in_ok-row.ensures);
      front = c.front_shown.result.now;
      shown = shown;
      text_is = c.behind_mark-text.ensures ∙ ap behind_mark (c.deref.ensures.value ∙ c.in_ok-whole.ensures);
    }
