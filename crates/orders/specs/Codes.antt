-- The numbers that stand for layers and for the kinds of orders.
use Rattle.std.specs.Prelude.{◌≡◌, ◌≢◌, ℕ, Ok, Err, Result}
use Rattle.orders.specs.Layout.{layer_number}
use Rattle.orders.specs.declared.answer.Layer.{Layer}
use Rattle.orders.specs.declared.answer.NoSuchLayer.{NoSuchLayer}
use Rattle.orders.specs.declared.order.OrderKind.{OrderKind}
use Rattle.orders.specs.declared.order.OrderKind.TheVariants.{Folder, Volume, Quota, Reserve, Resize, Begin, HoldWrites, HoldFrees, Assign, Abort, Write, Free, Commit, Turn, Tell}
use Rattle.orders.specs.declared.order.UnknownKind.{UnknownKind}

-- the first byte of an order of this kind
abbrev pub kind_byte : OrderKind → ℕ
kind_byte Folder = 0x01
kind_byte Volume = 0x02
kind_byte Quota = 0x03
kind_byte Reserve = 0x04
kind_byte Resize = 0x05
kind_byte Begin = 0x10
kind_byte HoldWrites = 0x11
kind_byte HoldFrees = 0x12
kind_byte Assign = 0x13
kind_byte Abort = 0x14
kind_byte Write = 0x15
kind_byte Free = 0x16
kind_byte Commit = 0x17
kind_byte Turn = 0x20
kind_byte Tell = 0x21

-- The kind with this first byte; or the byte is that of no kind.
abbrev pub KindOf : ℕ → Result OrderKind UnknownKind → Type 0
KindOf byte (Ok kind) = kind_byte kind ≡ byte
KindOf byte (Err unknown) = (unknown.0 ≡ byte) × ((kind : OrderKind) → kind_byte kind ≢ byte)

-- The layer with this number; or no layer has it.
abbrev pub LayerOf : ℕ → Result Layer NoSuchLayer → Type 0
LayerOf number (Ok layer) = layer_number layer ≡ number
LayerOf number (Err none) = (none.0 ≡ number) × ((layer : Layer) → layer_number layer ≢ number)
