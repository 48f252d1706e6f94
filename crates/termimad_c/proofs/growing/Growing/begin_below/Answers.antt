use Rattle.std.proofs.Common.{◌≡◌, ◌++◌, Some, rules}
use Rattle.termimad_c.proofs.GrowthLemmas.{below_of}
use Rattle.termimad_c.proofs.growing.Growing.begin_below.Goals as goal

pub returns-clause-below : goal.returns-clause-below
returns-clause-below c =
    let held : c.args.self.now.live ≡ Some c.in-Some.live = search rules in
    let waits : c.extend_from_slice.new.self.items ≡ c.args.self.now.waiting.items ++ c.in_ok-bytes.bytes.items = search rules in
    λ s is. below_of s c.in-Some.live c.args.self.now.live c.args.width c.args.height c.args.self.now.waiting.items c.in_ok-bytes.bytes.items _ c.in_ok-bytes.next held is waits c.in_ok-bytes.ensures.below
