use Rattle.std.proofs.lemmas.Result.{err_from_is_err_and}
use Rattle.termimad_command.proofs.ShowLemmas.{read_and_written, unread_unshown}
use Rattle.termimad_command.proofs.showing.show_whole.Goals as goal

pub returns-in_err-bytes : goal.returns-in_err-bytes
returns-in_err-bytes g c =
    let p = err_from_is_err_and c.from_residual.result c.from_residual.ensures.1 in
    rw (p.1, p.2) (unread_unshown _ _ _ _ _ _ _ _ c.in_err-bytes.ensures)

pub returns : goal.returns
returns g c =
    read_and_written _ _ _ _ c.in_ok-bytes.bytes.items _ _ _ _ _ _ c.write_bytes.result
    c.in_ok-bytes.ensures c.as_slice.ensures.value c.grammar_of_file-grammar.ensures c.write_bytes.ensures
