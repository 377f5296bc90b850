pub mod TextColumns
