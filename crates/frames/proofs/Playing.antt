-- Turns and calls one after another: where the loop stands before the next. Assumes nothing.
use Rattle.std.proofs.Common.{◌≡◌, ℕ, ◌+◌, ◌-◌, ◌*◌, ◌%◌, ◌<◌, ◌≤◌, List, [], ◌∷◌, ◌++◌, length, get_or, ℤ, sym, refl, ap, ◌∙◌, subst, append_assoc, append-nil, add-one, arith, length-append}
use lib.Seq.{sets, length-sets}
use Rattle.sizes.specs.Sizes.{num_channels, queue_buffer, stems_per_frame}
use Rattle.num.proofs.Lists.{sets-append}
use Rattle.version.specs.declared.SguVersion.{SguVersion}
use Rattle.ticks.specs.Mix.{silence}
use Rattle.ticks.specs.declared.Sides.{Sides}
use Rattle.voices.specs.Accepted.{AcceptedCore}
use Rattle.voices.specs.declared.Core.{Core}
use Rattle.frames.specs.declared.Asked.{Asked}
use Rattle.frames.specs.declared.Asked.TheVariants as variants
use Rattle.frames.specs.Ticking.{voiced, voice_ticks}
use Rattle.frames.specs.Turning.{turned}
use Rattle.frames.specs.Listing.{asked_of, Listed, with_turns, clock_turns, call_as, listed, clocked_as, clocked_by, frames_asked}
use Rattle.frames.proofs.Loop.{done_more}
use Rattle.frames.proofs.Turns.{Ready, Turn}
use Rattle.frames.proofs.Counts.{grown, frames-more, frames-within}

-- ---- turn after turn
module _ (first n : ℕ) where
  pub turns-none : (s : Listed) → clock_turns first n 0 s ≡ s
  unfolding turned
  turns-none s = λ i. record { core = s.core; version = s.version; ram = s.ram; queues = s.queues; values = s.values; stems = append-nil s.stems i }

  -- one more
  abbrev pub turn_on : ℕ → Listed → Listed
  turn_on k s =
      let v = voice_ticks s.version s.ram s.queues ((first + k) % num_channels) n (voiced s.core silence) in
      record { core = v.core; version = s.version; ram = s.ram; queues = s.queues; values = s.values; stems = s.stems ++ (v.sides.left ∷ v.sides.right ∷ []) }

  pub turns_more : (k : ℕ) (s : Listed) → turn_on k (clock_turns first n k s) ≡ clock_turns first n (k + 1) s
  turns_more k s =
      let t = turned s.version s.ram s.queues first n k s.core in
      let v = voice_ticks s.version s.ram s.queues ((first + k) % num_channels) n (voiced t.core silence) in
      (λ i. record { core = v.core; version = s.version; ram = s.ram; queues = s.queues; values = s.values; stems = append_assoc s.stems t.stems (v.sides.left ∷ v.sides.right ∷ []) i })
      ∙ ap (with_turns s) (sym (done_more s.version s.ram s.queues first n s.core k))

-- ---- before a turn or a call
abbrev pub standing : List ℕ → Core → SguVersion → List ℤ → List ℕ → List ℤ → Listed
standing ram core version queues values gave = record { core = core; version = version; ram = ram; queues = queues; values = values; stems = gave }

module _ (kinds addresses : List ℕ) (first n turns from to : ℕ) (ram : List ℕ) (s₀ : Listed) (stems₀ : List ℤ) (at values₀ : ℕ) where
  abbrev pub calls : ℕ → Listed
  calls m = listed kinds addresses first n from m (clock_turns first n turns s₀)

  abbrev F : ℕ → ℕ
  F m = frames_asked kinds addresses from m

  pub calls-more : (m : ℕ) → call_as kinds addresses first n (asked_of (get_or kinds (from + m) 0)) (from + m) (calls m) ≡ calls (m + 1)
  unfolding listed
  calls-more m = ap calls (sym (add-one m))

  -- m calls were begun; k of the `stop` turns that the last of them asks for were made, from `base` on
  pub record Going (core : Core) (version : SguVersion) (queues : List ℤ) (values : List ℕ) (stems : List ℤ) (place i turn stop : ℕ) : Type 0 where
    pub m : ℕ
    pub gave : List ℤ
    pub base : Listed
    pub begun : i ≡ from + m
    pub within : m ≤ to - from
    pub is : standing ram core version queues values gave ≡ clock_turns first n turn base
    pub ends : clock_turns first n stop base ≡ calls m
    pub order : turn ≤ stop
    pub ready : Ready version (length ram) core
    pub entries : length queues ≡ queue_buffer
    pub long : length values ≡ values₀
    pub filled : stems ≡ sets stems₀ at gave
    pub behind : place ≡ at + length gave
    pub left : length gave + 2 * (stop - turn) ≡ 2 * turns + stems_per_frame * F m
    pub before : (j : ℕ) → 0 ≤ j → j < m → AcceptedCore (calls j).core (calls j).version (length ram)

  pub begin : s₀.ram ≡ ram → s₀.stems ≡ [] → Ready s₀.version (length ram) s₀.core → length s₀.queues ≡ queue_buffer → length s₀.values ≡ values₀
      → Going s₀.core s₀.version s₀.queues s₀.values stems₀ at from 0 turns
  unfolding listed frames_asked
  begin er es r e l = record {
    m = 0;
    gave = [];
    base = s₀;
    begun = omega arith;
    within = omega arith;
    is = sym (λ i. record { core = s₀.core; version = s₀.version; ram = er i; queues = s₀.queues; values = s₀.values; stems = es i }) ∙ sym (turns-none first n s₀);
    ends = refl;
    order = omega arith;
    ready = r;
    entries = e;
    long = l;
    filled = refl;
    behind = omega arith;
    left = omega arith;
    before = λ j g h. absurd (omega arith);
  }

  module _ (core : Core) (version : SguVersion) (queues : List ℤ) (values : List ℕ) (stems : List ℤ) (place i turn stop : ℕ) (g : Going core version queues values stems place i turn stop) where
    pub has-room : turn < stop → at + (2 * turns + stems_per_frame * F (to - from)) ≤ length stems₀ → place + 2 ≤ length stems
    has-room h r =
        let f = frames-within kinds addresses from g.m (to - from) g.within in
        let e : length stems ≡ length stems₀ = ap length g.filled ∙ length-sets stems₀ at g.gave in
        omega (arith, h, r, f, e, g.behind, g.left)

    -- ---- a turn
    module _ (more : turn < stop) (ch : ℕ) (here : ch ≡ (first + turn) % num_channels) (next : Core) (sides : Sides) (t : Turn version ram queues ch n core next sides) where
      abbrev two : List ℤ
      two = sides.left ∷ sides.right ∷ []

      as-turn : voiced next sides ≡ voice_ticks version ram queues ((first + turn) % num_channels) n (voiced core silence)
      as-turn = t.same ∙ ap (λ (c : ℕ). voice_ticks version ram queues c n (voiced core silence)) here

      pub turn-made : (written q : List ℤ) → written ≡ sets stems place two → q ≡ queues → Going next version q values written (place + 2) i (turn + 1) stop
      turn-made written q w eq = record {
        m = g.m;
        gave = g.gave ++ two;
        base = g.base;
        begun = g.begun;
        within = g.within;
        is =
            (λ j. record { core = (as-turn j).core; version = version; ram = ram; queues = eq j; values = values; stems = g.gave ++ ((as-turn j).sides.left ∷ (as-turn j).sides.right ∷ []) })
            ∙ ap (turn_on first n turn) g.is ∙ turns_more first n turn g.base;
        ends = g.ends;
        order = omega arith;
        ready = t.ready;
        entries = ap length eq ∙ g.entries;
        long = g.long;
        filled =
            w ∙ ap (λ (l : List ℤ). sets l place two) g.filled ∙ ap (λ (k : ℕ). sets (sets stems₀ at g.gave) k two) g.behind
            ∙ sym (sets-append g.gave two stems₀ at);
        behind = let e = length-append g.gave two in omega (arith, e, g.behind);
        left = let e = length-append g.gave two in omega (arith, e, g.left, more);
        before = g.before;
      }

    -- ---- no turn is left
    module _ (none : stop ≤ turn) where
      pub all_made : standing ram core version queues values g.gave ≡ calls g.m
      all_made = let e : turn ≡ stop = omega (arith, g.order) in g.is ∙ ap (λ (k : ℕ). clock_turns first n k g.base) e ∙ g.ends

      -- the last call is over
      pub over : to ≤ i → standing ram core version queues values g.gave ≡ calls (to - from)
      over h = all_made ∙ ap calls (omega (arith, g.within, g.begun))

      pub placed : to ≤ i → place ≡ at + (2 * turns + stems_per_frame * F (to - from))
      placed h =
          let e : F g.m ≡ F (to - from) = ap F (omega (arith, h, g.within, g.begun)) in
          omega (arith, e, none, g.left, g.behind)

      pub each-before : to ≤ i → (j : ℕ) → j < to - from → AcceptedCore (calls j).core (calls j).version (length ram)
      each-before h j l = g.before j (omega arith) (omega (arith, h, l, g.within, g.begun))

      -- a call: `next` and `turns_left` turns make what it makes
      pub call-begun : i < to → (next : Listed) (turns_left : ℕ) → next.ram ≡ ram → next.stems ≡ g.gave → Ready next.version (length ram) next.core
          → length next.queues ≡ queue_buffer → length next.values ≡ values₀
          → clock_turns first n turns_left next ≡ call_as kinds addresses first n (asked_of (get_or kinds i 0)) i (standing ram core version queues values g.gave)
          → 2 * turns_left ≡ stems_per_frame * clocked_by kinds addresses i
          → Going next.core next.version next.queues next.values stems place (i + 1) 0 turns_left
      call-begun h next turns_left er es r e l made count =
          let p : i ≡ from + g.m = g.begun in
          let f = frames-more kinds addresses from g.m in
          let q : clocked_by kinds addresses i ≡ clocked_by kinds addresses (from + g.m) = ap (clocked_by kinds addresses) p in
          record {
            m = g.m + 1;
            gave = g.gave;
            base = next;
            begun = omega (arith, p);
            within = omega (arith, p, h);
            is = sym (λ j. record { core = next.core; version = next.version; ram = er j; queues = next.queues; values = next.values; stems = es j }) ∙ sym (turns-none first n next);
            ends =
                made ∙ ap (call_as kinds addresses first n (asked_of (get_or kinds i 0)) i) all_made
                ∙ ap (λ (k : ℕ). call_as kinds addresses first n (asked_of (get_or kinds k 0)) k (calls g.m)) p ∙ calls-more g.m;
            order = omega arith;
            ready = r;
            entries = e;
            long = l;
            filled = g.filled;
            behind = g.behind;
            left = omega (arith, f, q, count, g.left, g.order, none);
            before = grown (λ (j : ℕ). AcceptedCore (calls j).core (calls j).version (length ram)) 0 g.m g.before
                (subst (λ (s : Listed). AcceptedCore s.core s.version (length ram)) all_made g.ready.accepted);
          }

-- ---- what is left to do
fewer : (stop cb all now next d e : ℕ) → 2 * stop ≡ stems_per_frame * cb → next ≡ now + cb → next ≤ all → e ≡ d + 1 → stop - 0 + (8 * (all - next) + d) < 8 * (all - now) + e
fewer stop cb all now next d e c f w h = omega arith

module _ (kinds addresses : List ℕ) (from to i : ℕ) (low : from ≤ i) (high : i < to) where
  abbrev asks : ℕ → ℕ
  asks m = frames_asked kinds addresses from m

  pub less-left : (stop : ℕ) → 2 * stop ≡ stems_per_frame * clocked_by kinds addresses i
      → stop - 0 + (8 * (frames_asked kinds addresses from (to - from) - frames_asked kinds addresses from (i + 1 - from)) + (to - (i + 1))) < 8 * (frames_asked kinds addresses from (to - from) - frames_asked kinds addresses from (i - from)) + (to - i)
  less-left stop c =
      let p : from + (i - from) ≡ i = omega arith in
      let q : i - from + 1 ≡ i + 1 - from = omega arith in
      let f : asks (i + 1 - from) ≡ asks (i - from) + clocked_by kinds addresses i = ap asks (sym q) ∙ frames-more kinds addresses from (i - from) ∙ ap (λ (k : ℕ). asks (i - from) + clocked_by kinds addresses k) p in
      let w = frames-within kinds addresses from (i + 1 - from) (to - from) (omega arith) in
      let d : to - i ≡ to - (i + 1) + 1 = omega arith in
      fewer stop (clocked_by kinds addresses i) (asks (to - from)) (asks (i - from)) (asks (i + 1 - from)) (to - (i + 1)) (to - i) c f w d

  pub clocked-most : clocked_by kinds addresses i ≤ get_or addresses i 0
  clocked-most = by (asked_of (get_or kinds i 0))
    where
      by : (t : Asked) → clocked_as t (get_or addresses i 0) ≤ get_or addresses i 0
      by variants.WriteRegister = omega arith
      by variants.WritePcmRam = omega arith
      by variants.Read = omega arith
      by variants.Peek = omega arith
      by variants.Clock = omega arith
      by variants.SetVersion = omega arith
      by variants.Nothing = omega arith
