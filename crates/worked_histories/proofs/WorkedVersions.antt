-- What the bytes of the worked versions hold, by computation.
use Rattle.std.proofs.Common.{◌≡◌, Some, refl}
use Rattle.version_codec.specs.Reading.{version_in}
use Rattle.state_core.specs.declared.transitions.Transition.TheVariants.{Init}
use Rattle.worked_histories.specs.Worked.{the_shard, state0, state1, state2, state3, state4, state5, state6, state7, state8}
use Rattle.worked_histories.specs.Worked.{step1, step2, step3, step4, step5, step6, step7, step8}
use Rattle.worked_histories.specs.Worked.{version0, version1, version2, version3, version4, version5, version6, version7, version8}
use Rattle.worked_histories.proofs.Opened.{opened_versions}

pub reads0 : version_in the_shard 0 version0 ≡ Some (state0, Init)
unfolding version0 opened_versions
reads0 = refl

pub reads1 : version_in the_shard 1 version1 ≡ Some (state1, step1)
unfolding version1 opened_versions
reads1 = refl

pub reads2 : version_in the_shard 2 version2 ≡ Some (state2, step2)
unfolding version2 opened_versions
reads2 = refl

pub reads3 : version_in the_shard 3 version3 ≡ Some (state3, step3)
unfolding version3 opened_versions
reads3 = refl

pub reads4 : version_in the_shard 4 version4 ≡ Some (state4, step4)
unfolding version4 opened_versions
reads4 = refl

pub reads5 : version_in the_shard 5 version5 ≡ Some (state5, step5)
unfolding version5 opened_versions
reads5 = refl

pub reads6 : version_in the_shard 6 version6 ≡ Some (state6, step6)
unfolding version6 opened_versions
reads6 = refl

pub reads7 : version_in the_shard 7 version7 ≡ Some (state7, step7)
unfolding version7 opened_versions
reads7 = refl

pub reads8 : version_in the_shard 8 version8 ≡ Some (state8, step8)
unfolding version8 opened_versions
reads8 = refl
