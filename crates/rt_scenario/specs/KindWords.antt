-- The words of the kinds, as reports print them.
use Rattle.std.specs.Prelude.{ℕ, List, codes}
use Rattle.rt_scenario.specs.declared.kind.Kind.{Kind}
use Rattle.rt_scenario.specs.declared.kind.Kind.TheVariants.{Cut, Long, Byte, Space, Place, Unknown, Count, Name, Number, Twice, Missing, Tasks, Config, NoRun}

abbrev pub kind_word : Kind → List ℕ
kind_word Cut = codes "cut"
kind_word Long = codes "long"
kind_word Byte = codes "byte"
kind_word Space = codes "space"
kind_word Place = codes "place"
kind_word Unknown = codes "unknown"
kind_word Count = codes "count"
kind_word Name = codes "name"
kind_word Number = codes "number"
kind_word Twice = codes "twice"
kind_word Missing = codes "missing"
kind_word Tasks = codes "tasks"
kind_word Config = codes "config"
kind_word NoRun = codes "norun"
