use Rattle.std.proofs.Common.{sym, ap, ◌∙◌}
use Rattle.markdown_addresses.proofs.NoneLemmas.{mail_none, cond_none}
use Rattle.markdown_addresses.proofs.bare.mail_at.Goals as goal
