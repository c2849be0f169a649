-- The files of scripts.
use Rattle.std.specs.Prelude.{ℕ}

-- the most bytes that a script's file has
abbrev pub longest_script : ℕ
longest_script = 16777216
