-- The definitions of gm_commit that no clause of `tool` rests on: Arcs, EditLists, InstanceEdits, NewDartValues, OldDartValues, OwnEdits, TouchedSlots and WrittenMap.
pub mod Arcs
pub mod EditLists
pub mod InstanceEdits
pub mod NewDartValues
pub mod OldDartValues
pub mod OwnEdits
pub mod TouchedSlots
pub mod WrittenMap
