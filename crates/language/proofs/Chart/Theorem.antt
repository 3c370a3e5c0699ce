-- The theorem of the chart.
use Rattle.std.proofs.Common.{◌≡◌, ℕ, ◌-◌, ◌<◌, ◌≤◌, List, [], ◌∷◌, ◌++◌, length, get_or, take, sym, ap, ◌∙◌, subst, subst₂, append-nil, arith, eqb→eq}
use lib.Seq.{take-length, take-append_seam}
use Rattle.language.specs.Book.{Grammar, Key, left, size}
use Rattle.language.specs.Words.{Word, Begins, Is, only, between}
use Rattle.language.specs.Readings.{yield, item, Reads, Used, Begun, Programme}
use Rattle.language.specs.Chart.{Corner, self, Wanted, first, Held, Whole}
use Rattle.language.specs.Theorem.{ChartIs, ChartTheorem}
use Rattle.language.proofs.Words.{begins_take}
use Rattle.language.proofs.Fits.{yield_keys}
use Rattle.language.proofs.Chart.Between.{between_first, between_all}
use Rattle.language.proofs.Chart.Context.{held_used, wanted_begun}
use Rattle.language.proofs.Chart.Done.{held_done, done_reads}
use Rattle.language.proofs.Columns.Bounds.{held_bounds}
use Rattle.language.proofs.Chart.Proper.{Proper, sound_proper}
use Rattle.language.proofs.Chart.Local.{reads_held, held_locally}
use Rattle.language.proofs.Chart.Used.{uses_held, key_wanted}

-- keys that begin with words and then a key: that key stands behind the words
begins_key : (p : List ℕ) (ws : List Word) (c : ℕ) → Begins p (ws ++ (only c ∷ [])) → (length ws < length p) × (get_or p (length ws) 0 ≡ c)
begins_key [] [] c b = absurd b
begins_key [] (w ∷ ws) c b = absurd b
begins_key (x ∷ p) [] c b = (omega arith, eqb→eq x c b.0)
begins_key (x ∷ p) (w ∷ ws) c b = let rest = begins_key p ws c b.1 in (omega (arith, rest.0), rest.1)

module _ (g : Grammar) (proper : Proper g) (ws : List Word) where
  -- the start part may start after no word
  start_wanted : (r : ℕ) → left g r ≡ g.start → Wanted g ws 0 (left g r)
  start_wanted r e = first (left g r) (subst (Corner g g.start) (sym e) self)

  begins_between : (p : List ℕ) (k : ℕ) → Begins p (take k ws) → Begins (p ++ []) (between 0 k ws)
  begins_between p k b = subst₂ Begins (sym (append-nil p)) (sym (between_first ws k)) b

  -- the ways back: an item that is used is held, a key that goes on may start, a programme is whole
  used_held : (r d i k : ℕ) → k ≤ length ws → Used g (take k ws) (item r d i k) → Held g ws r d i k
  used_held r d i k short u =
      let t = u.reading in
      let b = begins_between (yield t.children) k u.begins in
      uses_held g proper ws k short t.by 0 t.children [] (start_wanted t.by t.heads) t.fits b (item r d i k) u.uses (omega arith)

  begun_wanted : (c : ℕ) → Begun g (ws ++ (only c ∷ [])) → Wanted g ws (length ws) c
  begun_wanted c h =
      let t = h.reading in
      let p = yield t.children in
      let n = length ws in
      let last = begins_key p ws c h.begins in
      let b = subst (Begins p) (take-append_seam ws (only c ∷ []) ∙ sym (take-length ws)) (begins_take p (ws ++ (only c ∷ [])) n h.begins) in
      let e : n - 0 ≡ n = omega arith in
      let w = key_wanted g proper ws n (omega arith) t.by 0 t.children [] (start_wanted t.by t.heads) t.fits (begins_between p n b) (omega arith) (omega (arith, last.0)) in
      subst (Wanted g ws n) (ap (λ m. get_or p m 0) e ∙ last.1) w

  begun_key : (c : ℕ) → Begun g (ws ++ (only c ∷ [])) → Key g c
  begun_key c h =
      let t = h.reading in
      let last = begins_key (yield t.children) ws c h.begins in
      subst (Key g) last.1 (yield_keys g t.by t.children t.fits (length ws) last.0)

  whole_programme : Whole g ws → Programme g ws
  whole_programme h =
      let done = held_done g proper ws h.by (size g h.by) 0 (length ws) h.held in
      subst₂ (Reads g) h.heads (between_all ws) (done_reads g h.by (between 0 (length ws) ws) done)

  programme_whole : Programme g ws → Whole g ws
  programme_whole h =
      let reads = subst (Is (yield h.reading.children)) (sym (between_all ws)) h.is in
      record {
        by = h.reading.by;
        heads = h.reading.heads;
        held = reads_held g proper ws g.start 0 (length ws) (first g.start self) (record { reading = h.reading; is = reads }) (omega arith);
      }

  -- the chart is what the theorem says of it
  pub chart_is : ChartIs g ws
  chart_is = record {
    items = λ r d i k. ((λ h. ((held_bounds g ws proper.filled r d i k h).ends, held_used g proper ws r d i k h)), (λ h. used_held r d i k h.0 h.1));
    lit = λ c. ((λ h. wanted_begun g proper ws c h.key h.wanted), (λ h. record { key = begun_key c h; wanted = begun_wanted c h }));
    whole = (whole_programme, programme_whole);
    spans = held_locally g proper ws;
  }

-- the theorem, for every sound book
pub chart_theorem : ChartTheorem
chart_theorem m sound ws = chart_is m.grammar (sound_proper m sound) ws
