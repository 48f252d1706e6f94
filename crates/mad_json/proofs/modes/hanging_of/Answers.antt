use Rattle.std.proofs.Common.{lit<, ◌∙◌, ap, sym, Some, None}
use Rattle.std.specs.Prelude.{option_and_then}
use Rattle.std.proofs.lemmas.Str.Pattern.{strip_suffix_char}
use Rattle.mad_parse.proofs.ColorLemmas.{split_none, split_some, without_none, without_some}
use Rattle.mad_json.specs.Modes.{called_mode, front_mode}
use Rattle.mad_json.proofs.modes.hanging_of.Goals as goal

pub returns-in_err-strip_suffix : goal.returns-in_err-strip_suffix
returns-in_err-strip_suffix c = c.from_residual.ensures ∙ sym (ap (option_and_then front_mode) (without_none 41 _ (strip_suffix_char 41 _ None c.in_err-strip_suffix.ensures.cases (lit< tt))))

pub returns-in_err-name : goal.returns-in_err-name
returns-in_err-name c =
    c.from_residual-in_err-name.ensures
    ∙ sym (ap (option_and_then front_mode) (without_some 41 _ _ (strip_suffix_char 41 _ (Some c.in_ok-strip_suffix.field-0) c.in_ok-strip_suffix.ensures.cases (lit< tt)))
    ∙ ap (option_and_then (λ parts. called_mode parts.0 parts.1)) (split_none 40 _ c.in_err-name.ensures.cases (lit< tt)))

pub returns : goal.returns
returns c =
    c.called_mode.ensures
    ∙ sym (ap (option_and_then front_mode) (without_some 41 _ _ (strip_suffix_char 41 _ (Some c.in_ok-strip_suffix.field-0) c.in_ok-strip_suffix.ensures.cases (lit< tt)))
    ∙ ap (option_and_then (λ parts. called_mode parts.0 parts.1)) (split_some 40 _ (c.in_ok-name.name, c.in_ok-name.digits) c.in_ok-name.ensures.cases (lit< tt)))
