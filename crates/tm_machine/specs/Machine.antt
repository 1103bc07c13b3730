-- The machine of births: a foreground and a worker, each with a text whose lines have births, the orders that
-- wait for the worker, and the batches that wait for the foreground. It never maps a line number.
use Rattle.std.specs.Prelude.{◌≡◌, ◌≢◌, ℕ, zero, suc, ◌<◌, Bool, true, false, ◌&&◌, List, [], ◌∷◌, ◌++◌, length, map, replicate, Option, Some, None, option_and_then, slice_get}
use Rattle.tm_defs.specs.declared.changes.Change.{Change}
use Rattle.tm_defs.specs.declared.changes.LineEffect.{LineEffect}
use Rattle.tm_defs.specs.declared.events.Step.{Step}
use Rattle.tm_defs.specs.declared.events.Step.TheVariants as step
use Rattle.tm_defs.specs.declared.events.Turn.{Turn}
use Rattle.tm_defs.specs.declared.events.Turn.TheVariants.{Done, Idle, Blocked}
use Rattle.tm_defs.specs.declared.frames.FrameData.{FrameData}
use Rattle.tm_defs.specs.declared.tokens.Token.{Token}
use Rattle.tm_machine.specs.declared.entries.Entry.{Entry}
use Rattle.tm_machine.specs.Accepts.{Made, Use, Touched, no_counts, counts_from, use_of, used_at}
use Rattle.tm_machine.specs.Births.{Birth, place_of}
use Rattle.tm_machine.specs.Changes.{BornText, changed, opened, effect_of, spliced}
use Rattle.tm_machine.specs.Documents.{Rules, Document, Answer, Edited, Set, Lined, Nothing, Drained, Worked, Posted, Used, OtherEpoch, Refused, IsTableRefusal, IsMemoryRefusal, DocumentSteps, blank_entries, edited, reset}
use Rattle.tm_machine.specs.Entries.{is_end, AreAccurate}
use Rattle.tm_machine.specs.Turns.{opening}

-- a text with births, the number of its setting, and what is kept of its lines
pub record Side : Type 0 where
  pub text : BornText
  pub epoch : ℕ
  pub entries : List (Entry (List FrameData))

-- a side as it is seen without births, and a document with the births of a text
abbrev pub seen : Side → Document
seen s = record { lines = s.text.lines; version = s.text.version; epoch = s.epoch; entries = s.entries }

abbrev pub with_births : BornText → Document → Side
with_births t d = record { text = t; epoch = d.epoch; entries = d.entries }

-- what is kept of the line of a birth
abbrev pub entry_of : Side → Birth → Option (Entry (List FrameData))
entry_of s b = option_and_then (slice_get s.entries) (place_of s.text.births b)

pub data Order : Type 0 where
  ChangeOrder : (version : ℕ) (change : Change) → Order
  SettingOrder : (number : ℕ) → Order

-- what was made of the line of a birth
pub record Item : Type 0 where
  pub birth : Birth
  pub made : Made (List FrameData)
  pub open made use *

pub record Batch : Type 0 where
  pub epoch : ℕ
  pub version : ℕ
  pub items : List Item

-- orders and batches wait oldest first. A line of the worker is fresh where it was done and not posted since
pub record Machine : Type 0 where
  pub fore : Side
  pub back : Side
  pub fresh : List Bool
  pub orders : List Order
  pub batches : List Batch

-- all begins with the opening text, blank entries and the numbers 0
abbrev pub side_of : List (List ℕ) → Side
side_of lines = record { text = opened lines; epoch = 0; entries = blank_entries lines }

abbrev pub machine_of : List (List ℕ) → Machine
machine_of lines = record { fore = side_of lines; back = side_of lines; fresh = replicate (length lines) false; orders = []; batches = [] }

-- a step of the foreground that was done: births follow the text, and an edit or a setting adds its order
abbrev pub text_after : BornText → Step → Answer → BornText
text_after t (step.Edit c) (Edited version) = changed t c
text_after t _ _ = t

abbrev pub orders_after : List Order → Step → Answer → List Order
orders_after orders (step.Edit c) (Edited version) = orders ++ ChangeOrder version c ∷ []
orders_after orders (step.Setting number) Set = orders ++ SettingOrder number ∷ []
orders_after orders _ _ = orders

abbrev pub ForeSteps : Rules → Machine → Step → Answer → Machine → Type 0
ForeSteps r m s a n = (d : Document) × DocumentSteps r (seen m.fore) s a d × (n ≡ record m { fore = with_births (text_after m.fore.text s a) d; orders = orders_after m.orders s a })

-- the worker does an order as the foreground did its step; new lines are not fresh, and behind a setting none is
abbrev pub obeyed : Side → Order → Side
obeyed s (ChangeOrder version c) = with_births (changed s.text c) (edited (seen s) c)
obeyed s (SettingOrder number) = with_births s.text (reset (seen s) number)

abbrev pub fresh_obeyed : List (List ℕ) → List Bool → Order → List Bool
fresh_obeyed lines fresh (ChangeOrder version c) = let e : LineEffect = effect_of lines c in spliced e.first e.old (replicate e.new false) fresh
fresh_obeyed lines fresh (SettingOrder number) = map (λ f. false) fresh

abbrev pub Drains : Machine → Answer → Machine → Type 0
Drains m Nothing n = (m.orders ≡ []) × (n ≡ m)
Drains m Drained n = (o : Order) × (os : List Order) × (m.orders ≡ o ∷ os) × (n ≡ record m { back = obeyed m.back o; fresh = fresh_obeyed m.back.text.lines m.fresh o; orders = os })
Drains m (Refused why) n = IsMemoryRefusal why × (n ≡ m)
Drains m _ n = ⊥

-- a turn of the worker; the line that is done is fresh
abbrev pub marked : List Bool → ℕ → List Bool
marked [] i = []
marked (f ∷ fs) zero = true ∷ fs
marked (f ∷ fs) (suc i) = f ∷ marked fs i

abbrev pub fresh_after : List Bool → Turn → List Bool
fresh_after fresh (Done i) = marked fresh i
fresh_after fresh Idle = fresh
fresh_after fresh (Blocked i) = fresh

abbrev pub Works : Rules → Machine → Answer → Machine → Type 0
Works r m (Worked turn) n = (d : Document) × DocumentSteps r (seen m.back) step.Line (Lined turn) d × (n ≡ record m { back = with_births m.back.text d; fresh = fresh_after m.fresh turn })
Works r m (Refused why) n = IsTableRefusal why × (n ≡ m)
Works r m _ n = ⊥

-- the lines that are fresh and good, in text order, where the first of them begins in a state
abbrev pub item_if : Bool → Birth → List ℕ → (start : Option (List FrameData)) → (tokens : Option (List Token)) → (end : Option (List FrameData)) → List Item
item_if true b line (Some start) (Some tokens) (Some end) = record { birth = b; made = record { line = line; start = start; tokens = tokens; end = end } } ∷ []
item_if _ _ _ _ _ _ = []

abbrev pub fresh_items : (before : Option (List FrameData)) → List Birth → List (List ℕ) → List (Entry (List FrameData)) → List Bool → List Item
fresh_items before (b ∷ bs) (line ∷ lines) (e ∷ es) (f ∷ fs) = item_if (f && e.good) b line before e.tokens e.end ++ fresh_items e.end bs lines es fs
fresh_items before _ _ _ _ = []

abbrev pub items_of : Side → List Bool → List Item
items_of s fresh = fresh_items opening s.text.births s.text.lines s.entries fresh

-- they become a batch, and no line is fresh any more
abbrev pub Posts : Machine → Answer → Machine → Type 0
Posts m Nothing n = (items_of m.back m.fresh ≡ []) × (n ≡ m)
Posts m (Posted count) n =
    (0 < count) × (count ≡ length (items_of m.back m.fresh))
    × (n ≡ record m { fresh = map (λ f. false) m.fresh; batches = m.batches ++ record { epoch = m.back.epoch; version = m.back.text.version; items = items_of m.back m.fresh } ∷ [] })
Posts m (Refused why) n = IsMemoryRefusal why × (n ≡ m)
Posts m _ n = ⊥

-- an item is used where its birth stands, whose characters are its own
abbrev pub use_at : List (Entry (List FrameData)) → Item → Option ℕ → Use
use_at es x None = Touched
use_at es x (Some i) = use_of is_end opening es true x.start i

abbrev pub entries_at : List (Entry (List FrameData)) → Item → Option ℕ → List (Entry (List FrameData))
entries_at es x None = es
entries_at es x (Some i) = used_at is_end (use_at es x (Some i)) es x.tokens x.end i

abbrev pub all_used : List Birth → List (Entry (List FrameData)) → List Item → List (Entry (List FrameData))
all_used births es [] = es
all_used births es (x ∷ xs) = all_used births (entries_at es x (place_of births x.birth)) xs

abbrev pub all_uses : List Birth → List (Entry (List FrameData)) → List Item → List Use
all_uses births es [] = []
all_uses births es (x ∷ xs) = use_at es x (place_of births x.birth) ∷ all_uses births (entries_at es x (place_of births x.birth)) xs

-- the oldest batch is taken; one of another setting changes nothing else
abbrev pub Accepts : Machine → Answer → Machine → Type 0
Accepts m Nothing n = (m.batches ≡ []) × (n ≡ m)
Accepts m (OtherEpoch batch model) n = (b : Batch) × (bs : List Batch) × (m.batches ≡ b ∷ bs) × (b.epoch ≢ m.fore.epoch) × (batch ≡ b.epoch) × (model ≡ m.fore.epoch) × (n ≡ record m { batches = bs })
Accepts m (Used counts) n =
    (b : Batch) × (bs : List Batch) × (m.batches ≡ b ∷ bs) × (b.epoch ≡ m.fore.epoch) × (counts ≡ counts_from no_counts (all_uses m.fore.text.births m.fore.entries b.items))
    × (n ≡ record m { fore = record (m.fore) { entries = all_used m.fore.text.births m.fore.entries b.items }; batches = bs })
Accepts m (Refused why) n = IsTableRefusal why × (n ≡ m)
Accepts m _ n = ⊥

-- one step: from m the machine may answer so and go on to n
abbrev pub Steps : Rules → Machine → Step → Answer → Machine → Type 0
Steps r m step.Drain a n = Drains m a n
Steps r m step.Work a n = Works r m a n
Steps r m step.Post a n = Posts m a n
Steps r m step.Accept a n = Accepts m a n
Steps r m (step.Edit c) a n = ForeSteps r m (step.Edit c) a n
Steps r m (step.Setting number) a n = ForeSteps r m (step.Setting number) a n
Steps r m step.Line a n = ForeSteps r m step.Line a n
Steps r m (step.Force line) a n = ForeSteps r m (step.Force line) a n
Steps r m step.Settle a n = ForeSteps r m step.Settle a n

-- steps with their answers, one after another
abbrev pub Runs : Rules → Machine → List (Step × Answer) → Machine → Type 0
Runs r m [] n = n ≡ m
Runs r m (x ∷ xs) n = (mid : Machine) × Steps r m x.0 x.1 mid × Runs r mid xs n

-- what is kept of the foreground's lines is accurate
abbrev pub IsAccurate : Rules → Machine → Type 0
IsAccurate r m = AreAccurate (r.setting m.fore.epoch) m.fore.text.lines m.fore.entries
