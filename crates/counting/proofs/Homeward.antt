-- What the return count adds to RC, over any rule set: where the directory's RC is 0, its return count is the number of references on their way
-- home. Laws A and C alone leave no remote entry and no decrement then, and law B says the rest. Assumes nothing.
use Rattle.std.specs.Prelude.{◌≡◌}
use Rattle.std.proofs.Common.{sym, ◌∙◌}
use Rattle.counting.proofs.Bridge.{hangs_nowhere, air_nothing, directory_only}
use Rattle.counting.specs.Rules.{Rules, Share, homeward, Lawful, Shaped}

module _ (R : Rules) (c : Share R) (lawful : Lawful R c) (shaped : Shaped R c) (no_count : R.rc (c.entry R.owner) ≡ 0) where
  -- all return counts are the directory's, and law B says how many they are
  pub returns-homeward : R.returns (c.entry R.owner) ≡ R.of (homeward R c)
  returns-homeward =
      sym (directory_only R c lawful shaped (hangs_nowhere R c lawful shaped no_count) (air_nothing R c lawful shaped no_count)) ∙ lawful.law_b
