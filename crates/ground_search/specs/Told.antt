-- told x == the answer that tells the ground x
use Rattle.grounds.specs.Ground.{Ground, input_stuck, by_replies, at_home, output_stuck, unanswered, by_way_out, unserved, pushed_on}
use Rattle.ground_search.specs.declared.Explanation.{Explanation}
use Rattle.ground_search.specs.declared.Explanation.TheVariants.{
  InputStuck,
  ByReplies,
  AtHome,
  OutputStuck,
  Unanswered,
  ByWayOut,
  Unserved,
  PushedOn,
}

unfoldable pub told : Ground → Explanation
told input_stuck = InputStuck
told by_replies = ByReplies
told (at_home d) = AtHome (record { 0 = d })
told output_stuck = OutputStuck
told (unanswered j) = Unanswered (record { 0 = j })
told (by_way_out j) = ByWayOut (record { 0 = j })
told (unserved k n) = Unserved k n
told pushed_on = PushedOn
