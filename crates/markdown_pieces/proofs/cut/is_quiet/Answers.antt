use Rattle.std.proofs.Common.{◌≡◌, ℕ, ◌<◌, List, None, false, length, subst, arith}
use Rattle.markdown_addresses.specs.Bare.{HasNoAt}
use Rattle.markdown_pieces.specs.Scan.{HasNoWeb}
use Rattle.markdown_pieces.specs.Pieces.{plain_from}
use Rattle.markdown_pieces.proofs.QuietLemmas.{quiet_cut, some_length, off}
use Rattle.markdown_pieces.proofs.cut.is_quiet.Goals as goal

pub returns : goal.returns
returns c = λ h labels.
    let text : List ℕ = c.args.text.now in
    let bytes : List ℕ = c.as_bytes-bytes.result.now in
    let is : bytes ≡ text = c.as_bytes-bytes.ensures.value in
    let some : 0 < length bytes = some_length (length bytes) c.is_empty.result c.is_empty.ensures c.if-is_empty.false in
    let all : plain_from false None bytes ≡ length bytes = omega (arith, c.quiet_len.ensures.value, c.quiet_len.ensures.within, c.if-quiet_len-bytes.false) in
    let web : HasNoWeb bytes = c.may_have_web.ensures (off c.may_have_web.result h) in
    let mail : HasNoAt bytes = c.has_at.ensures c.if-has_at.false in
    quiet_cut labels text (subst (λ (t : List ℕ). 0 < length t) is some) (subst (λ (t : List ℕ). plain_from false None t ≡ length t) is all) (subst HasNoWeb is web) (subst HasNoAt is mail)
