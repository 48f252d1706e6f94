use Rattle.std.proofs.Common.{◌≡◌, ◌++◌, map, take, drop}
use Rattle.mad_json.specs.Lists.{header_with}
use Rattle.mad_json.proofs.lists.set_each.Given as goal

-- the headers before this one are set, the others are as they were
abbrev pub invariant-loop-header : goal.invariant-loop-header
invariant-loop-header l = l.headers ≡ map (header_with l.line) (take l.header-index l.fn.headers) ++ drop l.header-index l.fn.headers
