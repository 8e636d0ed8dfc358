-- The readings of the head, the lines and the end of a map's text as the reading of the whole.
use Rattle.std.proofs.Common.{ℕ, List, [], ◌++◌, Option, refl, ap, subst, ◌∙◌}
use Rattle.std.proofs.lemmas.List.{append-nil}
use Rattle.gm_model.specs.declared.schema.Schema.{Schema}
use Rattle.gm_model.specs.declared.value.Value.{Value}
use Rattle.gm_model.specs.Symbols.{End, Mark}
use Rattle.gm_text.specs.inner.Cursor.{Cursor}
use Rattle.gm_text.specs.declared.schema_fault.SchemaFault.{SchemaFault}
use Rattle.gm_mapfile.specs.inner.Draft.{version_in}
use Rattle.gm_mapfile.specs.MapReading.{Head, Want, start, darts_wants, all_numbers, among, Reads, Stops, Misses, ReadsDarts, ReadsMap}
use Rattle.gm_mapfile.specs.inner.Words.{IsEndNext, IsMoreNext}
use Rattle.gm_mapfile.proofs.Joined.{reads_then, stops_then}
use Rattle.gm_mapfile.proofs.ValueSteps.{more_stops}

module _ (stated : Option ℕ) (schema : Schema) (count : ℕ) (old between : Cursor) where
  module _ (reads : Reads start old between (among (record { version = version_in stated; schema = schema }) [] (darts_wants schema count))) where
    pub darts_stop : (fault : SchemaFault) → Misses (darts_wants schema count) between fault → Stops start old fault
    darts_stop fault misses =
        let head : Head = record { version = version_in stated; schema = schema } in
        let stops = subst (λ (ws : List Want). Stops (among head [] ws) between fault) (append-nil (darts_wants schema count)) (misses head [] []) in
        stops_then start (among head [] (darts_wants schema count)) old between fault reads stops

    module _ (new : Cursor) (numbers : List ℕ) (values : List Value) (lines : ReadsDarts schema count between new numbers values) where
      all_read : Reads start old new (among (record { version = version_in stated; schema = schema }) (all_numbers lines.darts) [])
      all_read =
          let head : Head = record { version = version_in stated; schema = schema } in
          let further = subst (λ (ws : List Want). Reads (among head [] ws) between new (among head (all_numbers lines.darts) [])) (append-nil (darts_wants schema count)) (lines.takes head [] []) in
          reads_then start (among head [] (darts_wants schema count)) (among head (all_numbers lines.darts) []) old between new reads further

      pub end_stop : (fault : SchemaFault) → IsMoreNext new fault → Stops start old fault
      end_stop fault more =
          let head : Head = record { version = version_in stated; schema = schema } in
          stops_then start (among head (all_numbers lines.darts) []) old new fault all_read (more_stops head (all_numbers lines.darts) new fault more)

      pub map_reads : IsEndNext new → ReadsMap old stated schema numbers values
      map_reads (place, marks) =
          let all = all_read in
          record {
            darts = lines.darts;
            whole = lines.whole;
            numbers_are = lines.numbers_are;
            values_are = lines.values_are;
            before = all.before;
            end = record { symbol = End; place = place };
            split = all.split ∙ ap (λ (ms : List Mark). all.before ++ ms) marks;
            ends = refl;
            runs = all.runs;
          }
