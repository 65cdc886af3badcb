-- The words for what is wrong with a line.
use Rattle.std.specs.Prelude.{ℕ, List, codes}
use Rattle.history.specs.declared.text_causes.TextCause.{TextCause}
use Rattle.history.specs.declared.text_causes.TextCause.TheVariants.{End, Form, Range, Extra}

-- the name of a cause
abbrev pub cause_text : TextCause → List ℕ
cause_text End = codes "End"
cause_text Form = codes "Form"
cause_text Range = codes "Range"
cause_text Extra = codes "Extra"
