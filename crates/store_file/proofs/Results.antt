-- Facts on what was answered.
use Rattle.std.proofs.Common.{Result, Ok, Err, IfOk, OnOk}

-- what holds anyway holds where the answer is Ok
pub on_ok : {A E : Type 0} {P : Type 0} (r : Result A E) → P → OnOk r P
on_ok (Ok x) p = p
on_ok (Err e) p = tt

-- what follows of the answer
pub if_ok_so : {A E : Type 0} (P Q : A → Type 0) (r : Result A E) → ((x : A) → P x → Q x) → IfOk r P → IfOk r Q
if_ok_so P Q (Ok x) so p = so x p
if_ok_so P Q (Err e) so p = tt
