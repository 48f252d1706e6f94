-- Texts that are put between commands.
use Rattle.std.proofs.Common.{◌≡◌, ℕ, List, ◌++◌, subst, sym}
use Rattle.std.specs.Prelude.{OnOk, Result}
use Rattle.mad_wrap.specs.Writings.{put_bytes}
use Rattle.mad_wrap.specs.declared.first_fit.Put.{Put}

-- what is put in the place of bytes that are the same
pub put_same : {T E : Type 0} (r : Result T E) (old new later : List ℕ) (put : Put) (said bytes : List ℕ) → said ≡ bytes
    → OnOk r (new ≡ old ++ put_bytes later put bytes) → OnOk r (new ≡ old ++ put_bytes later put said)
put_same r old new later put said bytes same h = subst (λ (b : List ℕ). OnOk r (new ≡ old ++ put_bytes later put b)) (sym same) h
