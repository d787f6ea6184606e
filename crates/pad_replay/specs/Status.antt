-- The status of a program that could not play its story.
use Rattle.std.specs.Prelude.{ℕ}
use Rattle.pad_replay.specs.declared.fault.StoryFault.{StoryFault}
use Rattle.pad_replay.specs.declared.fault.StoryFault.TheVariants.{BadAccounts}

-- 2 after an invalid line of the accounts file, otherwise 1
abbrev pub status : StoryFault → ℕ
status (BadAccounts line) = 2
status other = 1
