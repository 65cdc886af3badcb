-- Values of three words, as C passes and gets them.
use Rattle.std.specs.Prelude.{◌≡◌, Option, Some, Result, Ok}
use Rattle.carriers.specs.declared.items.ItemOf.{ItemOf}
use Rattle.msq_c.specs.declared.words.MsqWords.{MsqWords}
use Rattle.msq_c.specs.declared.words.MsqItem.{MsqItem}
use Rattle.msq_c.specs.declared.troubles.Trouble.{Trouble}

-- what C gets of a value of three words: these, just as they were pushed, and who pushed them
abbrev pub item_of : ItemOf MsqWords → MsqItem
item_of front = record { words = front.value; from = front.from }

-- the value that a pop took was written as an item, and else nothing
abbrev pub IsItemWritten : {T I : Type 0} (item : ItemOf T → I) → Result (Option (ItemOf T)) Trouble → I → I → Type 0
IsItemWritten item (Ok (Some front)) v v' = v' ≡ item front
IsItemWritten item out v v' = v' ≡ v
