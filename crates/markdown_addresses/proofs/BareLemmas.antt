-- One byte less of an address.
use Rattle.std.proofs.Common.{◌≡◌, ℕ, zero, suc, ◌-◌, ◌<◌, Bool, List, sym, ap, arith}
use Rattle.markdown_addresses.specs.Bare.{trim_step, trim_next, trimmed}

-- where bytes are left, the last of them decides whether it goes
pub trim_more : (spare : ℕ) (entity : Bool) (left : ℕ) (bytes : List ℕ) → 0 < left → trimmed spare entity left bytes ≡ trim_next (trim_step spare entity (left - 1) bytes) left (λ s e. trimmed s e (left - 1) bytes)
unfolding trimmed
trim_more spare entity zero bytes h = absurd (omega arith)
trim_more spare entity (suc n) bytes h = let one : suc n - 1 ≡ n = omega arith in ap (λ k. trim_next (trim_step spare entity k bytes) (suc n) (λ s e. trimmed s e k bytes)) (sym one)
