-- The fields of an order, read one after the other. Each reading says where the cursor was, c, and where it is then, d.
use Rattle.std.specs.Prelude.{◌≡◌, ℕ, ◌+◌, ◌<◌, ◌≤◌, List, length, take, drop, Ok, Err, Result, slice_index}
use Rattle.std.specs.Borrow.{Bor}
use Rattle.orders.specs.Meaning.{meaning, name_place}
use Rattle.orders.specs.Layout.{pair_at, name_at}
use Rattle.orders.specs.declared.order.Order.{Order}
use Rattle.orders.specs.declared.order.Name.{Name}
use Rattle.reader.specs.declared.cursor.Cursor.{Cursor}
use Rattle.reader.specs.declared.cursor.Flaw.{Flaw}
use Rattle.reader.specs.declared.cursor.Flaw.TheVariants.{CutShort}
use Rattle.reader.specs.declared.fault.ReadFault.{ReadFault}
use Rattle.reader.specs.Decode.{decode, order, fault}

-- The cursor goes on by so many bytes of its script.
abbrev pub Ahead : ℕ → Cursor → Cursor → Type 0
Ahead n c d = (d.script ≡ c.script) × (d.place ≡ c.place + n)

-- The next n bytes, or the script ends before them.
abbrev pub BytesAt : ℕ → Cursor → Cursor → Result (Bor (List ℕ)) Flaw → Type 0
BytesAt n c d (Ok bs) = (c.place + n ≤ length c.script.now) × (bs.now ≡ take n (drop c.place c.script.now)) × Ahead n c d
BytesAt n c d (Err e) = (length c.script.now < c.place + n) × (e ≡ CutShort) × (d ≡ c)

abbrev pub ByteAt : Cursor → Cursor → Result ℕ Flaw → Type 0
ByteAt c d (Ok b) = (c.place < length c.script.now) × (b ≡ slice_index c.script.now c.place) × Ahead 1 c d
ByteAt c d (Err e) = (length c.script.now ≤ c.place) × (e ≡ CutShort) × (d ≡ c)

abbrev pub PairAt : Cursor → Cursor → Result (ℕ × ℕ) Flaw → Type 0
PairAt c d (Ok b) = (c.place + 2 ≤ length c.script.now) × (b.0 ≡ slice_index c.script.now c.place) × (b.1 ≡ slice_index c.script.now (c.place + 1)) × Ahead 2 c d
PairAt c d (Err e) = (length c.script.now < c.place + 2) × (e ≡ CutShort) × (d ≡ c)

abbrev pub UnitsAt : Cursor → Cursor → Result ℕ Flaw → Type 0
UnitsAt c d (Ok u) = (c.place + 2 ≤ length c.script.now) × (u ≡ pair_at c.script.now c.place) × Ahead 2 c d
UnitsAt c d (Err e) = (length c.script.now < c.place + 2) × (e ≡ CutShort) × (d ≡ c)

abbrev pub NameAt : Cursor → Cursor → Result Name Flaw → Type 0
NameAt c d (Ok n) = (c.place + 8 ≤ length c.script.now) × (n.bytes.now ≡ name_at c.script.now c.place) × (n.place ≡ c.place) × Ahead 8 c d
NameAt c d (Err e) = (length c.script.now < c.place + 8) × (e ≡ CutShort) × (d ≡ c)

-- the fault of an order that begins at p
abbrev pub fault_at : Flaw → ℕ → ReadFault
fault_at Flaw.UnknownKind p = ReadFault.UnknownKind p
fault_at Flaw.CutShort p = ReadFault.CutShort p

-- An order, where one begins at p, with the place at q afterwards. At a flaw the place is left anywhere.
abbrev pub OrderAt : List ℕ → ℕ → ℕ → Result Order Flaw → Type 0
OrderAt s p q (Ok o) = decode s p ≡ order (meaning o) (name_place o) q
OrderAt s p q (Err e) = decode s p ≡ fault (fault_at e p)
