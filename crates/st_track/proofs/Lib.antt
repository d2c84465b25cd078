mod Imaged
