use Rattle.worked_histories.proofs.worked.worked_bytes.Goals as goal
use Rattle.worked_histories.proofs.WorkedVersions.{reads0, reads1, reads2, reads3, reads4, reads5, reads6, reads7, reads8}
use Rattle.worked_histories.proofs.WorkedParts.{reads_early, reads_late, reads_merged}

pub returns : goal.returns
returns c = record {
  version0_is = reads0;
  version1_is = reads1;
  version2_is = reads2;
  version3_is = reads3;
  version4_is =
      reads4;
  version5_is = reads5;
  version6_is = reads6;
  version7_is = reads7;
  version8_is = reads8;
  early = reads_early;
  late =
      reads_late;
  merged = reads_merged;
}
