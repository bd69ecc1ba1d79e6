-- How the fault of the text of a rule file is spelt.
use Rattle.std.specs.Prelude.{ℕ, List, ◌++◌, codes, decimal}
use Rattle.rule_text.specs.declared.key.Key.{Key}
use Rattle.rule_text.specs.declared.key.Key.TheVariants as key
use Rattle.rule_text.specs.declared.place.Place.{Place}
use Rattle.rule_text.specs.declared.place.Place.TheVariants.{Top, InType, InKind}
use Rattle.rule_text.specs.declared.text_fault.TextFault.{TextFault}
use Rattle.rule_text.specs.declared.text_fault.TextFault.TheVariants.{NotToml, Missing, WrongType, OutOfRange, UnknownKey, NoMemory}

-- a key: its name, and the number of its type or kind after a space
abbrev pub file_key_text : Key → List ℕ
file_key_text key.Format = codes "format"
file_key_text key.Order = codes "order"
file_key_text key.Lambda = codes "lambda"
file_key_text key.Glue = codes "glue"
file_key_text key.TypeList = codes "type"
file_key_text (key.Mate ty) = codes "mate " ++ decimal ty
file_key_text (key.Parts ty) = codes "parts " ++ decimal ty
file_key_text key.KindList = codes "kind"
file_key_text (key.Vertices kind) = codes "vertices " ++ decimal kind
file_key_text (key.Edges kind) = codes "edges " ++ decimal kind
file_key_text (key.Children kind) = codes "children " ++ decimal kind

-- a table: the whole document, or the entry of a type or a kind, with its number
abbrev pub place_text : Place → List ℕ
place_text Top = codes "top"
place_text (InType ty) = codes "type " ++ decimal ty
place_text (InKind kind) = codes "kind " ++ decimal kind

-- its name, and its key or table after a space
abbrev pub text_fault_text : TextFault → List ℕ
text_fault_text NotToml = codes "NotToml"
text_fault_text (Missing k) = codes "Missing " ++ file_key_text k
text_fault_text (WrongType k) = codes "WrongType " ++ file_key_text k
text_fault_text (OutOfRange k) = codes "OutOfRange " ++ file_key_text k
text_fault_text (UnknownKey place) = codes "UnknownKey " ++ place_text place
text_fault_text NoMemory = codes "NoMemory"
