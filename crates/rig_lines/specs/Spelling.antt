-- How a line says something.
use Rattle.std.specs.Prelude.{◌≡◌, ℕ, suc, ◌^◌, ◌<◌, ◌⊎◌, ◌↔◌, List, [], ◌∷◌, ◌++◌, replicate, Some, codes, decimal}
use Rattle.std.specs.List.{AllByRecursion}
use Rattle.rig_lines.specs.declared.Item.{Item}
use Rattle.rig_lines.specs.declared.Item.TheVariants as item
use Rattle.rig_lines.specs.Codes.{form_name, role_letter}
use Rattle.rig_lines.specs.Items.{said_by}

-- the numbers that an item has
abbrev pub numbers : Item → List ℕ
numbers item.Comment = []
numbers (item.Head f n m) = n ∷ m ∷ []
numbers (item.Role v r) = v ∷ []
numbers (item.Limit v n) = v ∷ n ∷ []
numbers (item.Lead t h lo up) = t ∷ h ∷ lo ∷ up ∷ []
numbers (item.PlainLead t h up) = t ∷ h ∷ up ∷ []
numbers (item.Link t h up) = t ∷ h ∷ up ∷ []

-- the words that an item is written in; of a comment, its letter
abbrev pub words : Item → List (List ℕ)
words item.Comment = codes "c" ∷ []
words (item.Head f n m) = codes "p" ∷ form_name f ∷ decimal n ∷ decimal m ∷ []
words (item.Role v r) = codes "n" ∷ decimal v ∷ (role_letter r ∷ []) ∷ []
words (item.Limit v n) = codes "l" ∷ decimal v ∷ decimal n ∷ []
words (item.Lead t h lo up) = codes "a" ∷ decimal t ∷ decimal h ∷ decimal lo ∷ decimal up ∷ []
words (item.PlainLead t h up) = codes "a" ∷ decimal t ∷ decimal h ∷ decimal up ∷ []
words (item.Link t h up) = codes "e" ∷ decimal t ∷ decimal h ∷ decimal up ∷ []

-- the words stand in the line in order, one or more spaces between each two, and nothing else does
unfoldable pub Parted : List ℕ → List (List ℕ) → Type 0
Parted l [] = ⊥
Parted l (w ∷ []) = l ≡ w
Parted l (w ∷ (v ∷ ws)) = (k : ℕ) × (rest : List ℕ) × (l ≡ w ++ (replicate (suc k) 32 ++ rest)) × Parted rest (v ∷ ws)

-- c alone, or c, a space and anything
abbrev pub CommentLine : List ℕ → Type 0
CommentLine l = (l ≡ codes "c") ⊎ ((rest : List ℕ) × (l ≡ codes "c " ++ rest))

-- the item's words, with numbers of at most seven digits
abbrev pub Written : List ℕ → Item → Type 0
Written l x = Parted l (words x) × AllByRecursion (λ n. n < 10 ^ 7) (numbers x)

-- the line says the item
unfoldable pub Spelled : List ℕ → Item → Type 0
Spelled l item.Comment = CommentLine l
Spelled l (item.Head f n m) = Written l (item.Head f n m)
Spelled l (item.Role v r) = Written l (item.Role v r)
Spelled l (item.Limit v n) = Written l (item.Limit v n)
Spelled l (item.Lead t h lo up) = Written l (item.Lead t h lo up)
Spelled l (item.PlainLead t h up) = Written l (item.PlainLead t h up)
Spelled l (item.Link t h up) = Written l (item.Link t h up)

-- a line says just what it spells
abbrev pub SpelledExactly : Type 0
SpelledExactly = (l : List ℕ) (x : Item) → (said_by l ≡ Some x) ↔ Spelled l x
