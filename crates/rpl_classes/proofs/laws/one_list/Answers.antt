use Rattle.rpl_classes.proofs.Normal.{normal_same, norm_normal, norm_just}
use Rattle.rpl_classes.proofs.laws.one_list.Goals as goal

pub returns : goal.returns
returns c = record {
  same = normal_same;
  sorted = λ rs. (norm_normal rs).rises;
  characters = λ rs. (norm_normal rs).chars;
  members = norm_just;
}
