use Rattle.std.proofs.Common.{◌≡◌, ◌∙◌, List, ℕ, ap, subst}
use Rattle.std.specs.List.{AllByRecursion}
use Rattle.serde_json.specs.Data.{object}
use Rattle.serde_json.specs.View.{view}
use Rattle.mad_style.specs.declared.compound_styles.CompoundStyle.{CompoundStyle}
use Rattle.mad_style.specs.declared.styled_chars.StyledChar.{StyledChar}
use Rattle.mad_json.specs.ReadsBack.{ReadsBackChar, ReadsBackStyle}
use Rattle.mad_page_json.specs.PageWriting.{page_data}
use Rattle.mad_page_json.proofs.BackLemmas.{all_said, page_back}
use Rattle.mad_page_json.proofs.writing.page_to_value.Goals as goal

pub returns-clause-reads_back : goal.returns-clause-reads_back
returns-clause-reads_back c =
    let written : view c.object_of.result ≡ page_data c.args.skin.now =
    c.object_of.ensures ∙ ap object (rw (c.style_parts.ensures, c.in_ok-put_parts.ensures.value, c.char_parts.ensures, c.in_ok-members.ensures) at c.in_ok-put_parts-2.ensures.value) in
    page_back c.args.skin.now (view c.object_of.result) written
    (subst (λ (parts : List (List ℕ × CompoundStyle)). AllByRecursion (λ (named : List ℕ × CompoundStyle). ReadsBackStyle named.1) parts) c.style_parts.ensures (all_said ReadsBackStyle c.style_parts.result c.in_ok-put_parts-2.ensures.reads_back))
    (subst (λ (parts : List (List ℕ × StyledChar)). AllByRecursion (λ (named : List ℕ × StyledChar). ReadsBackChar named.1) parts) c.char_parts.ensures (all_said ReadsBackChar c.char_parts.result c.in_ok-put_parts.ensures.reads_back))
