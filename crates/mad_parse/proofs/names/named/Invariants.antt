use Rattle.std.proofs.Common.{◌≡◌, drop, map}
use Rattle.mad_parse.specs.Names.{named}
use Rattle.mad_parse.proofs.names.named.Given as goal

-- the names before this one aren't the text
abbrev pub invariant-loop-name : goal.invariant-loop-name
invariant-loop-name g l = named (map (λ entry. (entry.0.now, entry.1)) (drop l.name-index l.names)) l.text ≡ named (map (λ entry. (entry.0.now, entry.1)) l.names) l.text
